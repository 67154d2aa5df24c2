-- Laws of the tables of names (`specs/NameTable.antt`): their functions, and tables that hold what the lines of a text say
-- give what `specs/Names.antt` and `specs/Compiled.antt` say. Assumes nothing.
use Prim.Native.Nat.{ℕ, zero, suc, ◌+◌, ◌-◌, ◌<◌, ◌≤◌}
use mathlib.Core.Path.{◌≡◌, refl, sym, ap, ◌∙◌}
use mathlib.Core.Bool.{Bool, true, false, not}
use mathlib.Core.List.{List}
use native.Mathlib.Omega.{arith}
use native.Mathlib.Decide.{dec_le}
use native.Mathlib.Numerals.{add-one}
use lib.ListN.{get_or}
use lib.Dec.{leb}
use borrow.Author.Tests.{lt-ltb, le-ltb, ltb-true}
use Rattle.net.specs.Choice.{both, all}
use Rattle.net.proofs.Laws.{choose_true, choose_false}
use Rattle.net.proofs.AllLaws.{all_same}
use Rattle.net.proofs.Every.{chosen}
use Rattle.terms.specs.Numbering.{Start, here, called}
use Rattle.linking.specs.Source.{Line}
use Rattle.linking.specs.Compiled.{settle, settled}
use Rattle.linking.specs.Names.{defined, name_right, names_right}
use Rattle.linking.specs.NameTable.{start_from, start_in, settle_in, settled_in, name_right_in, names_right_in, Held}
use Rattle.linking.proofs.Bounded.{all_both}

-- ---- an entry
module _ (w : ℕ) where
  pub start_name : w < 512 → start_from w ≡ called w
  unfolding start_from
  start_name h = choose_true _ _ _ (lt-ltb w 512 h)

  pub start_instruction : 512 ≤ w → start_from w ≡ here (w - 512)
  unfolding start_from
  start_instruction h = choose_false _ _ _ (le-ltb w 512 h)

-- ---- name after name
module _ (bodies : List ℕ) where
  pub settle_on : (h k : ℕ) → h < 512 → settle_in (512 - h) bodies (called k) ≡ settle_in (512 - (h + 1)) bodies (start_from (get_or bodies k 0))
  unfolding settle_in start_in
  settle_on h k l = let more : 512 - h ≡ suc (512 - (h + 1)) = omega arith in rw more refl

  pub settle_here : (h n : ℕ) → settle_in h bodies (here n) ≡ here n
  unfolding settle_in
  settle_here zero n = refl
  settle_here (suc h) n = refl

  pub settle_last : (h : ℕ) (x : Start) → 512 ≤ h → settle_in (512 - h) bodies x ≡ x
  unfolding settle_in
  settle_last h x l = let none : 512 - h ≡ 0 = omega arith in rw none refl

-- ---- the names are right
pub both_wrong : (a b : Bool) → b ≡ false → both a b ≡ false
unfolding both
both_wrong true b e = e
both_wrong false b e = refl

pub names_wrong : (test : ℕ → Bool) (i n : ℕ) → i < n → test i ≡ false → all n test ≡ false
unfolding all both
names_wrong test i zero h e = absurd (omega arith)
names_wrong test i (suc n) h e = go (names_wrong test i n) (dec_le n i)
  where
    go : (i < n → test i ≡ false → all n test ≡ false) → Dec (n ≤ i) → both (all n test) (test n) ≡ false
    go f (yes l) = let same : n ≡ i = omega arith in both_wrong (all n test) (test n) (rw same e)
    go f (no l) = rw (f (omega arith) e) refl

pub names_more : (test : ℕ → Bool) (i : ℕ) → all i test ≡ true → test i ≡ true → all (i + 1) test ≡ true
unfolding all both
names_more test i e f = rw (add-one i, e, f) refl

pub names_all : (test : ℕ → Bool) (i : ℕ) (twice : Bool) → i ≡ 512 → all i test ≡ true → not twice ≡ both (not twice) (all 512 test)
unfolding both
names_all test i true e f = refl
names_all test i false e f = sym (rw e at f)

-- ---- tables that hold what the lines say
module _ (ls : List Line) (bodies : List ℕ) (defs uses : List Bool) (twice : Bool) (held : Held ls bodies defs uses twice) where
  -- a start that is a name has an entry
  unfoldable Entered : Start → Type 0
  Entered (here n) = Unit {0}
  Entered (called k) = k < 512

  from_entered : (w : ℕ) → Entered (start_from w)
  unfolding start_from Entered
  from_entered w = chosen Entered _ _ _ (λ l. ltb-true w 512 l) (λ l. tt)

  settle_same : (h : ℕ) (x : Start) → Entered x → settle_in h bodies x ≡ settle h ls x
  unfolding settle_in settle Entered start_in
  settle_same zero x b = refl
  settle_same (suc h) (here n) b = refl
  settle_same (suc h) (called k) b = settle_same h (start_in bodies k) (from_entered (get_or bodies k 0)) ∙ ap (settle h ls) (held.body k b)

  -- a name settles where the lines say
  pub settled_name : (k : ℕ) → k < 512 → settled_in bodies (called k) ≡ settled ls (called k)
  unfolding settled_in settled Entered
  settled_name k b = settle_same 512 (called k) b

  name_same : (k : ℕ) → k < 512 → both (leb (defined k ls) 1) (name_right_in bodies defs uses k) ≡ name_right ls k
  unfolding name_right_in name_right
  name_same k b = rw (held.defined k b, held.used k b, settled_name k b) refl

  -- the names are right where the lines say so
  pub names_same : names_right_in bodies defs uses twice ≡ names_right ls
  unfolding names_right_in names_right
  names_same =
      ap (λ (b : Bool). both b (all 512 (name_right_in bodies defs uses))) held.once
      ∙ all_both 512 (λ k. leb (defined k ls) 1) (name_right_in bodies defs uses) ∙ all_same 512 _ (name_right ls) name_same
