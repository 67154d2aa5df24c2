-- Laws of sets (`specs/Sets.antt`), run from a step. Assumes nothing.
use Prim.Native.Nat.{ℕ, zero, suc, ◌+◌, ◌-◌, ◌*◌, ◌/◌, ◌%◌, ◌^◌, ◌<◌, ◌≤◌}
use mathlib.Core.Path.{◌≡◌, refl, sym, ap, ◌∙◌}
use mathlib.Core.Bool.{Bool, true, false}
use mathlib.Core.List.{List}
use native.Mathlib.Omega.{arith}
use lib.ListN.{get_or, set}
use lib.Pow.{pow_mono}
use lib.Dec.{eqb}
use mir.Syntax.{w16}
use mir.Val.{Fits, bool_byte}
use Rattle.net.specs.Choice.{choose, fold}
use Rattle.net.specs.Records.{address_of}
use Rattle.net.specs.Groups.{halved, member}
use Rattle.net.proofs.FoldLaws.{fold_none, fold_more, fold_end, fold_keeps}
use Rattle.net.proofs.GroupLaws.{member_is}
use Rattle.std.proofs.Common.{Result, Ok, Err}
use Rattle.std.specs.Result.{IsErrAnd}
use Rattle.readers.specs.Reader.{Reader, fault_at, pure, ◌>>=◌}
use Rattle.lexemes.specs.Lexemes.{fail, optional}
use Rattle.lexemes.specs.Progress.{Reads, Resumes}
use Rattle.lexemes.proofs.Reading.{resumed, resumes_start, reads_pure, reads_fail}
use Rattle.fields.specs.Types.{Fault, Group, TextReader}
use Rattle.fields.specs.Sets.{group_of, member_from, members}
use Rattle.fields.proofs.FieldLaws.{one_on, one_last, comma_fault, one_fault}

-- ---- marks
bit_most : (b : Bool) → choose b 1 0 ≤ 1
unfolding choose
bit_most true = omega arith
bit_most false = omega arith

bit_is : (b : Bool) → bool_byte b ≡ choose b 1 0
unfolding choose
bit_is true = refl
bit_is false = refl

bit_told : (b : Bool) → eqb (choose b 1 0) 1 ≡ b
unfolding choose
bit_told true = refl
bit_told false = refl

bit_kept : (x : ℕ) → x < 2 → choose (eqb x 1) 1 0 ≡ x
unfolding choose
bit_kept zero h = refl
bit_kept (suc zero) h = refl
bit_kept (suc (suc x)) h = absurd (omega arith)

-- ---- the bits of the marks below i, which v stands for
module _ (marks : List Bool) where
  unfoldable pub with_bit : ℕ → ℕ → ℕ
  with_bit i v = v * 2 + choose (get_or marks i false) 1 0

  pub record Bits (i v : ℕ) : Type 0 where
    pub within : i ≤ 16
    pub is : v ≡ fold i with_bit 0

  bits_low : (i : ℕ) → fold i with_bit 0 < 2 ^ i
  unfolding with_bit
  bits_low i = fold_keeps (λ j v. v < 2 ^ j) with_bit 0 i (omega arith) (λ j v _ h. omega (arith, h, bit_most (get_or marks j false)))

  pub group_low : (group_of marks).0 < 65536
  unfolding group_of with_bit
  group_low = bits_low 16

  pub bits_none : Bits 0 0
  bits_none = record { within = omega arith; is = fold_none with_bit 0 0 refl }

  pub bits_twice : (i v : ℕ) → i < 16 → Bits i v → Fits w16 (v * 2)
  bits_twice i v h b = let l : suc i ≤ 16 = omega arith in omega (arith, b.is, bits_low i, pow_mono l)

  module _ (i v x : ℕ) (b : Bits i v) (d : x ≡ bool_byte (get_or marks i false)) where
    e : x ≡ choose (get_or marks i false) 1 0
    e = d ∙ bit_is (get_or marks i false)

    pub bits_next : i < 16 → Fits w16 (v * 2 + x)
    bits_next h = let l : suc i ≤ 16 = omega arith in omega (arith, b.is, e, bits_low i, pow_mono l, bit_most (get_or marks i false))

    pub bits_more : i < 16 → Bits (i + 1) (v * 2 + x)
    unfolding with_bit
    bits_more h = record {
      within = omega arith;
      is = fold_more with_bit 0 i v (v * 2 + x) b.is (ap (λ (y : ℕ). v * 2 + y) e);
    }

  pub bits_all : (i v : ℕ) → 16 ≤ i → Bits i v → record { 0 = v } ≡ group_of marks
  unfolding group_of with_bit
  bits_all i v h b = ap (λ (x : ℕ). record { 0 = x }) (fold_end with_bit 0 i 16 v b.is b.within h)

  -- ---- the members of the set are the marked addresses
  last_bit : (n : ℕ) → fold (suc n) with_bit 0 ≡ fold n with_bit 0 * 2 + choose (get_or marks n false) 1 0
  unfolding fold with_bit
  last_bit n = refl

  halved_bits : (k n : ℕ) → halved k (fold (k + n) with_bit 0) ≡ fold n with_bit 0
  unfolding halved
  halved_bits zero n = let e : 0 + n ≡ n = omega arith in ap (λ (m : ℕ). fold m with_bit 0) e
  halved_bits (suc k) n =
      let e : suc k + n ≡ k + suc n = omega arith in
      ap (λ (m : ℕ). halved k (fold m with_bit 0) / 2) e ∙ ap (λ (v : ℕ). v / 2) (halved_bits k (suc n))
      ∙ omega (arith, last_bit n, bit_most (get_or marks n false))

  pub member_marked : (l : ℕ) → l < 16 → member (group_of marks) (address_of l) ≡ get_or marks l false
  unfolding group_of with_bit
  member_marked l h =
      let e : 16 ≡ 15 - l + suc l = omega arith in
      let last : fold (suc l) with_bit 0 % 2 ≡ choose (get_or marks l false) 1 0 = omega (arith, last_bit l, bit_most (get_or marks l false)) in
      let rest = ap (λ (m : ℕ). halved (15 - l) (fold m with_bit 0)) e ∙ halved_bits (15 - l) (suc l) in
      sym (member_is (group_of marks) (address_of l) h) ∙ ap (λ (v : ℕ). eqb (v % 2) 1) rest ∙ ap (λ (x : ℕ). eqb x 1) last
      ∙ bit_told (get_or marks l false)

  -- ---- and every set is that of its members' marks
  module _ (g : Group) (fits : g.0 < 65536) (same : (l : ℕ) → l < 16 → get_or marks l false ≡ member g (address_of l)) where
    halved_out : (v : ℕ) → v < 65536 → halved 16 v ≡ 0
    unfolding halved
    halved_out v h = omega arith

    -- a bit more of the number
    bits_up : (n rest : ℕ) → fold n with_bit 0 ≡ rest / 2 → choose (get_or marks n false) 1 0 ≡ rest % 2 → fold (suc n) with_bit 0 ≡ rest
    bits_up n rest e d = let f = last_bit n in omega arith

    half_is : (n : ℕ) → n < 16 → halved (16 - n) g.0 ≡ halved (15 - n) g.0 / 2
    unfolding halved
    half_is n h = let e : 16 - n ≡ suc (15 - n) = omega arith in ap (λ (m : ℕ). halved m g.0) e

    last_is : (n : ℕ) → n < 16 → choose (get_or marks n false) 1 0 ≡ halved (15 - n) g.0 % 2
    last_is n h =
        ap (λ (b : Bool). choose b 1 0) (same n h ∙ sym (member_is g (address_of n) h))
        ∙ bit_kept (halved (15 - n) g.0 % 2) (omega arith)

    bits_are : (n : ℕ) → n ≤ 16 → fold n with_bit 0 ≡ halved (16 - n) g.0
    unfolding fold
    bits_are zero h = sym (halved_out g.0 fits)
    bits_are (suc n) h =
        let f : 15 - n ≡ 16 - suc n = omega arith in
        bits_up n (halved (15 - n) g.0) (bits_are n (omega arith) ∙ half_is n h) (last_is n h) ∙ ap (λ (m : ℕ). halved m g.0) f

    pub group_marked : group_of marks ≡ g
    unfolding group_of with_bit halved
    group_marked = ap (λ (v : ℕ). record { 0 = v }) (bits_are 16 (omega arith))

pub ruleset counted = (bits_none, bits_twice, bits_next, bits_more, bits_all)

-- ---- members, one after another
module _ (k n : ℕ) where
  members_first : (i low : ℕ) (marks : List Bool) → i < k → members (k - i) n low marks
      ≡ member_from n low >>= (λ l. optional 44 >>= (λ more. choose more (members (k - (i + 1)) n (l + 1) (set marks l true)) (pure (set marks l true))))
  unfolding members
  members_first i low marks h = let e : k - i ≡ suc (k - (i + 1)) = omega arith in rw e refl

  members_none : (i low : ℕ) (marks : List Bool) → k ≤ i → members (k - i) n low marks ≡ fail 31
  unfolding members
  members_none i low marks h = let e : k - i ≡ 0 = omega arith in rw e refl

  module _ (r₀ r r' r'' : TextReader) (i low₀ low l : ℕ) (marks₀ marks : List Bool) where
    abbrev m : Reader (List Bool)
    m = members k n low₀ marks₀

    abbrev rest : ℕ → Reader (List Bool)
    rest l = members (k - (i + 1)) n (l + 1) (set marks l true)

    abbrev marked : ℕ → Reader (List Bool)
    marked l = pure (set marks l true)

    pub members_on : (more : Bool) → more ≡ true → i < k → Resumes r₀ (members k n low₀ marks₀) r (members (k - i) n low marks)
        → Reads r (member_from n low) (Ok l) r' → Reads r' (optional 44) (Ok more) r''
        → Resumes r₀ (members k n low₀ marks₀) r'' (members (k - (i + 1)) n (l + 1) (set marks l true))
    members_on more e h s w v = one_on r₀ r r' r'' m (member_from n low) rest marked l more e (rw (members_first i low marks h) at s) w v

    pub members_last : (more : Bool) → more ≡ false → i < k → Resumes r₀ (members k n low₀ marks₀) r (members (k - i) n low marks)
        → Reads r (member_from n low) (Ok l) r' → Reads r' (optional 44) (Ok more) r'' → Reads r₀ (members k n low₀ marks₀) (Ok (set marks l true)) r''
    members_last more e h s w v =
        one_last r₀ r r' r'' m (member_from n low) rest marked l more (Ok (set marks l true)) e (rw (members_first i low marks h) at s) w v
        (reads_pure r'' r'' (set marks l true))

    pub members_comma : (e : Fault) (o : Result (List Bool) Fault) → i < k → Resumes r₀ (members k n low₀ marks₀) r (members (k - i) n low marks)
        → Reads r (member_from n low) (Ok l) r' → Reads r' (optional 44) (Err e) r'' → IsErrAnd o (λ d. d ≡ e)
        → Reads r₀ (members k n low₀ marks₀) o r''
    members_comma e o h s w v x = comma_fault r₀ r r' r'' m (member_from n low) rest marked l e o (rw (members_first i low marks h) at s) w v x

    pub members_fault : (e : Fault) (o : Result (List Bool) Fault) → i < k → Resumes r₀ (members k n low₀ marks₀) r (members (k - i) n low marks)
        → Reads r (member_from n low) (Err e) r' → IsErrAnd o (λ d. d ≡ e) → Reads r₀ (members k n low₀ marks₀) o r'
    members_fault e o h s w x = one_fault r₀ r r' r' m (member_from n low) rest marked l e o (rw (members_first i low marks h) at s) w x

    pub members_over : (e : Fault) → e ≡ fault_at 31 r.at 0 → k ≤ i → Resumes r₀ (members k n low₀ marks₀) r (members (k - i) n low marks)
        → Reads r₀ (members k n low₀ marks₀) (Err e) r
    members_over e d h s = resumed r₀ r r m _ (Err e) (rw (members_none i low marks h) at s) (reads_fail r 31 e d)

pub ruleset listing = (resumes_start, members_on, members_last, members_comma, members_fault, members_over)
