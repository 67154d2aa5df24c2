-- A logic of readers of bits (`specs/BitReader.antt`): how many bits a reader takes at most, what its values satisfy, and that
-- it looks at nothing past those bits. Assumes nothing.
use Prim.Native.Nat.{ℕ, zero, suc, ◌+◌, ◌-◌, ◌*◌, ◌/◌, ◌%◌, ◌<◌, ◌≤◌, ◌^◌}
use mathlib.Core.Path.{◌≡◌, refl, sym, ap, subst, ◌∙◌}
use mathlib.Core.Bool.{Bool, true, false}
use mathlib.Core.List.{List, [], ◌∷◌}
use native.Mathlib.Nat.{mul-le-mul_right, le_trans}
use native.Mathlib.Omega.{arith}
use native.Mathlib.Decide.{dec_le}
use lib.ListN.{length, take}
use lib.Seq.{get_or-take, take_all, length-take-le}
use lib.Dec.{leb, ltb}
use borrow.Author.Tests.{leb-true, ltb-true, le-leb}
use Rattle.net.specs.Choice.{choose, both}
use Rattle.readers.specs.Reader.{Parsed, got, fault, Reader, pure, and_then, ◌>>=◌, ◌>>◌, turns, each}
use Rattle.bitreader.specs.BitReader.{bit_at, number_at, judged, field, bits}
use Rattle.bitreader.specs.SameBits.{SameBits}
use Rattle.bitreader.specs.Types.{Fault}
use Rattle.readers.specs.Reader.{alternative, fault_at, field_end, require_in, tested}
use Rattle.net.proofs.Laws.{both_l, both_r}
use Rattle.readers.proofs.ReaderLaws.{no_fault, same_faults, choose_got}
use Rattle.bitreader.proofs.Following.{Goes, forward, stopped, Cut, Follows, goes_then, goes_wide, cut_then, follows_then}
use Rattle.bitreader.proofs.Following.{goes_field, follows_field, tested_of, goes_tested, follows_tested}

-- m takes at most b bits, its values satisfy P, the bytes that hold those bits decide what it gives, and it follows itself
-- from one image to another
pub record Within {A : Type 0} (m : Reader A) (b : ℕ) (P : A → Type 0) : Type 0 where
  pub ends : (s : List ℕ) (p : ℕ) (a : A) (q : ℕ) → m s p ≡ got a q → (q ≤ p + b) × P a
  pub same : (s : List ℕ) (p k : ℕ) → p + b ≤ 8 * k → m (take k s) p ≡ m s p
  pub goes : (s : List ℕ) (p : ℕ) → Goes s p b (m s p)
  pub follows : (s t : List ℕ) (e p : ℕ) → SameBits e s t → Follows t e p (m s p) (m t p)

-- where the fault of a reader from place p stands
pub record Stops (s : List ℕ) (p b : ℕ) (f : Fault) : Type 0 where
  pub near : f.place ≤ p + b
  pub past : f.number ≤ 27 → p ≤ field_end f
  pub inside : p ≤ 8 * length s → f.place ≤ 8 * length s

-- m comes out well only where the image ends within b bits, and the bytes that hold those bits decide what it gives
pub record Closes {A : Type 0} (m : Reader A) (b : ℕ) : Type 0 where
  pub fills : (s : List ℕ) (p : ℕ) (a : A) (q : ℕ) → m s p ≡ got a q → 8 * length s ≤ p + b
  pub same : (s : List ℕ) (p k : ℕ) → p + b ≤ 8 * k → m (take k s) p ≡ m s p
  pub stops : (s : List ℕ) (p : ℕ) (f : Fault) → m s p ≡ fault f → Stops s p b f
  pub stays :
      (s t : List ℕ) (e p : ℕ) → SameBits e s t → (f : Fault) → m s p ≡ fault f → f.number ≤ 27 → field_end f ≤ e → m t p ≡ fault f
  pub cuts :
      (s t : List ℕ) (e p : ℕ) → SameBits e s t → 8 * length t ≡ e → e < 8 * length s → p ≤ e → (a : A) (q : ℕ) → m s p ≡ got a q
      → Cut e (m t p)

-- of a value of which nothing is said
pub data Anything {A : Type 0} (a : A) : Type 0 where
  any : Anything a

-- ---- room for more bits
pub widen : {A : Type 0} {P : A → Type 0} {m : Reader A} {b c : ℕ} → b ≤ c → Within m b P → Within m c P
widen h w = record {
  ends = λ s p a q e. let g = w.ends s p a q e in (omega arith, g.1);
  same = λ s p k l. w.same s p k (omega arith);
  goes = λ s p. goes_wide h (w.goes s p);
  follows = w.follows;
}

-- nothing said of the values
pub simply : {A : Type 0} {P : A → Type 0} {m : Reader A} {b : ℕ} → Within m b P → Within m b Anything
simply w = record {
  ends = λ s p a q e. ((w.ends s p a q e).0, any);
  same = w.same;
  goes = w.goes;
  follows = w.follows;
}

-- ---- nothing read: a value
pub pure_within : {A : Type 0} {P : A → Type 0} (a : A) → P a → Within (pure a) 0 P
unfolding pure Follows
pure_within {A} {P} a h = record {
  ends = ends;
  same = λ s p k l. refl;
  goes = λ s p. forward {q = p} (omega arith) (omega arith) (λ i. i);
  follows = λ s t e p d. ((λ l. refl), (λ i j k. absurd (omega arith)));
}
  where
    ends : (s : List ℕ) (p : ℕ) (y : A) (q : ℕ) → pure a s p ≡ got y q → (q ≤ p + 0) × P y
    ends s p y q e =
        let d : a ≡ y = cc in
        let r : p ≡ q = cc in
        (omega arith, rw d at h)

-- ---- one reader after another
module _ {A B : Type 0} {P : A → Type 0} {m : Reader A} {b : ℕ} (f : A → Reader B) where
  bind_same : (c : ℕ) → Within m b P
      → ((a : A) → P a → (s : List ℕ) (p k : ℕ) → p + c ≤ 8 * k → f a (take k s) p ≡ f a s p)
      → (s : List ℕ) (p k : ℕ)
      → p + (b + c) ≤ 8 * k
      → (m >>= f) (take k s) p ≡ (m >>= f) s p
  unfolding ◌>>=◌ and_then
  bind_same c w v s p k l = rw (w.same s p k (omega arith)) (go (m s p) refl)
    where
      go : (o : Parsed A) → m s p ≡ o → and_then o (take k s) f ≡ and_then o s f
      go (got x r) d = let g = w.ends s p x r d in v x g.1 s r k (omega arith)
      go (fault n) d = refl

  -- where the whole came out well: what the first one gave, and from where the second went on
  bind_got : Within m b P → (s : List ℕ) (p : ℕ) (y : B) (q : ℕ) → (m >>= f) s p ≡ got y q
      → (x : A) × (r : ℕ) × (r ≤ p + b) × P x × (f x s r ≡ got y q)
  unfolding ◌>>=◌ and_then
  bind_got w s p y q = go (m s p) refl
    where
      go : (o : Parsed A) → m s p ≡ o → and_then o s f ≡ got y q
          → (x : A) × (r : ℕ) × (r ≤ p + b) × P x × (f x s r ≡ got y q)
      go (got x r) d e = let g = w.ends s p x r d in (x, r, g.0, g.1, e)
      go (fault n) d e = no_fault e

stops_on : (s : List ℕ) (p b q c : ℕ) (g : Fault) → p ≤ q → q ≤ p + b → (p ≤ 8 * length s → q ≤ 8 * length s) → Stops s q c g
    → Stops s p (b + c) g
stops_on s p b q c g l h k r =
    record { near = omega (arith, r.near); past = λ n. le_trans l (r.past n); inside = λ i. r.inside (k i) }

module _ {A B : Type 0} {P : A → Type 0} {m : Reader A} {f : A → Reader B} {b c : ℕ} where
  pub bind : {Q : B → Type 0} → Within m b P → ((a : A) → P a → Within (f a) c Q) → Within (m >>= f) (b + c) Q
  unfolding ◌>>=◌ and_then
  bind {Q} w v = record {
    ends = ends;
    same = bind_same f c w (λ a h. (v a h).same);
    goes = λ s p. goes_then s p b c f (w.goes s p) (λ a q e. (v a (w.ends s p a q e).1).goes s q);
    follows = λ s t e p d.
        follows_then s t e p f b c (m s p) (m t p) (w.follows s t e p d)
        (λ a q g. (v a (w.ends s p a q g).1).goes s q) (λ a q g. (v a (w.ends s p a q g).1).follows s t e q d);
  }
    where
      ends : (s : List ℕ) (p : ℕ) (y : B) (q : ℕ) → (m >>= f) s p ≡ got y q → (q ≤ p + (b + c)) × Q y
      ends s p y q e =
          let (x, r, l, h, d) = bind_got f w s p y q e in
          let g = (v x h).ends s r y q d in
          (omega arith, g.1)

  pub bind_closes : Within m b P → ((a : A) → P a → Closes (f a) c) → Closes (m >>= f) (b + c)
  unfolding ◌>>=◌ and_then Follows
  bind_closes w v = record {
    fills = fills;
    same = bind_same f c w (λ a h. (v a h).same);
    stops = λ s p g. stops s p g (m s p) refl (w.goes s p);
    stays = λ s t e p d g. stays s t e p d g (m s p) refl (w.follows s t e p d);
    cuts = λ s t e p d k l h y q. cuts s t e p d k l h y q (m s p) refl (w.follows s t e p d);
  }
    where
      fills : (s : List ℕ) (p : ℕ) (y : B) (q : ℕ) → (m >>= f) s p ≡ got y q → 8 * length s ≤ p + (b + c)
      fills s p y q e =
          let (x, r, l, h, d) = bind_got f w s p y q e in
          let g = (v x h).fills s r y q d in
          omega arith

      next : (s : List ℕ) (p : ℕ) (x : A) (r : ℕ) → m s p ≡ got x r → Closes (f x) c
      next s p x r d = v x (w.ends s p x r d).1

      stops : (s : List ℕ) (p : ℕ) (g : Fault) (o : Parsed A) → m s p ≡ o → Goes s p b o → and_then o s f ≡ fault g → Stops s p (b + c) g
      stops s p g (got x r) d (forward l h k) e = stops_on s p b r c g l h k ((next s p x r d).stops s r g e)
      stops s p g (fault n) d (stopped l h k) e =
          let z : n ≡ g = same_faults e in
          rw (← z) (record { near = omega arith; past = λ _. h; inside = k })

      stays : (s t : List ℕ) (e p : ℕ) → SameBits e s t → (g : Fault) (o : Parsed A) → m s p ≡ o → Follows t e p o (m t p)
          → and_then o s f ≡ fault g → g.number ≤ 27 → field_end g ≤ e → and_then (m t p) t f ≡ fault g
      stays s t e p d g (got x r) i h j n l =
          let u = next s p x r i in
          ap (λ (y : Parsed A). and_then y t f) (h.0 (le_trans ((u.stops s r g j).past n) l)) ∙ u.stays s t e r d g j n l
      stays s t e p d g (fault k) i h j n l =
          let z : k ≡ g = same_faults j in
          ap (λ (y : Parsed A). and_then y t f) (h (rw z l)) ∙ j

      cuts : (s t : List ℕ) (e p : ℕ) → SameBits e s t → 8 * length t ≡ e → e < 8 * length s → p ≤ e → (y : B) (q : ℕ) (o : Parsed A)
          → m s p ≡ o → Follows t e p o (m t p) → and_then o s f ≡ got y q → Cut e (and_then (m t p) t f)
      cuts s t e p d k l h y q (got x r) i g j = by (dec_le r e)
        where
          by : Dec (r ≤ e) → Cut e (and_then (m t p) t f)
          by (yes n) =
              subst (λ (z : Parsed A). Cut {A = B} e (and_then z t f)) (sym (g.0 n)) ((next s p x r i).cuts s t e r d k l n y q j)
          by (no n) = cut_then s t e p f (g.1 h (omega arith) k)
      cuts s t e p d k l h y q (fault n) i g j = no_fault j

-- a value made of the last one
pub gives : {A B : Type 0} {P : A → Type 0} {m : Reader A} {b : ℕ} (g : A → B) → Within m b P
    → Within (m >>= (λ a. pure (g a))) b Anything
gives g w = widen (omega arith) (bind w (λ a h. pure_within _ any))

-- a value after the end
pub closes_pure : {A B : Type 0} {m : Reader A} {b : ℕ} → Closes m b → (y : B) → Closes (m >> pure y) b
unfolding ◌>>◌ ◌>>=◌ and_then pure
closes_pure {A} {B} {m} {b} w y = record {
  fills = λ s p z q e. fills s p z q (m s p) refl e;
  same = λ s p k l. rw (w.same s p k l) (same s k (m s p));
  stops = λ s p f e. w.stops s p f (back s (m s p) f e);
  stays = λ s t e p d f i n l. rw (w.stays s t e p d f (back s (m s p) f i) n l);
  cuts = λ s t e p d k l h z q i. cuts s t e p d k l h z q (m s p) refl i;
}
  where
    fills : (s : List ℕ) (p : ℕ) (z : B) (q : ℕ) (o : Parsed A) → m s p ≡ o → and_then o s (λ x. pure y) ≡ got z q
        → 8 * length s ≤ p + b
    fills s p z q (got x r) d e = w.fills s p x r d
    fills s p z q (fault n) d e = no_fault e

    same : (s : List ℕ) (k : ℕ) (o : Parsed A) → and_then o (take k s) (λ x. pure y) ≡ and_then o s (λ x. pure y)
    same s k (got x r) = refl
    same s k (fault n) = refl

    back : (s : List ℕ) (o : Parsed A) (f : Fault) → and_then o s (λ x. pure y) ≡ fault f → o ≡ fault f
    back s (got x r) f e = no_fault (sym e)
    back s (fault n) f e = ap fault (same_faults e)

    cuts : (s t : List ℕ) (e p : ℕ) → SameBits e s t → 8 * length t ≡ e → e < 8 * length s → p ≤ e → (z : B) (q : ℕ) (o : Parsed A)
        → m s p ≡ o → and_then o s (λ x. pure y) ≡ got z q → Cut e (and_then (m t p) t (λ x. pure y))
    cuts s t e p d k l h z q (got x r) i j = cut_then s t e p (λ x. pure y) (w.cuts s t e p d k l h x r i)
    cuts s t e p d k l h z q (fault n) i j = no_fault j

-- ---- at most n turns of at most b bits each, which keep P
module _ {A : Type 0} {P : A → Type 0} {f : ℕ → A → Reader A} {b : ℕ} where
  turns_within : ((i : ℕ) (a : A) → P a → Within (f i a) b P) → (n i : ℕ) (a : A) → P a → Within (turns n i f a) (n * b) P
  unfolding turns
  turns_within w zero i a h = widen (omega arith) (pure_within a h)
  turns_within w (suc n) i a h =
      widen (omega arith) (bind (w i a h) (λ x g. turns_within w n (suc i) x g))

  pub each_within : {k n : ℕ} (a : A) → k ≤ n → P a → ((i : ℕ) (x : A) → P x → Within (f i x) b P)
      → Within (each k f a) (n * b) P
  unfolding each
  each_within {k} {n} a l h w = widen (mul-le-mul_right b l) (turns_within w k 0 a h)

-- ---- one of several readers
pub data AllWithin {A : Type 0} (b : ℕ) (P : A → Type 0) : List (Reader A) → Type 0 where
  nothing : AllWithin b P []
  ◌or◌ : {r : Reader A} {rs : List (Reader A)} → Within r b P → AllWithin b P rs → AllWithin b P (r ∷ rs)

infixr 5 ◌or◌
module _ {A : Type 0} {P : A → Type 0} {b : ℕ} where
  pub alternative_within : {rs : List (Reader A)} {last : Reader A} → AllWithin b P rs → Within last b P → (k : ℕ)
      → Within (alternative rs last k) b P
  unfolding alternative
  alternative_within nothing w k = w
  alternative_within (v or vs) w zero = v
  alternative_within (v or vs) w (suc k) = alternative_within vs w k

  pub choose_within : (t : Bool) {x y : Reader A} → Within x b P → Within y b P → Within (choose t x y) b P
  unfolding choose
  choose_within true v w = v
  choose_within false v w = w

-- ---- a field
pub bit_same : (s : List ℕ) (k p : ℕ) → p < 8 * k → bit_at (take k s) p ≡ bit_at s p
unfolding bit_at
bit_same s k p h = ap (λ x. x / 2 ^ (7 - p % 8) % 2) (get_or-take k s (p / 8) 0 (omega arith))

number_same : (s : List ℕ) (k p w : ℕ) → p + w ≤ 8 * k → number_at (take k s) p w ≡ number_at s p w
unfolding number_at
number_same s k p zero h = refl
number_same s k p (suc w) h = cc (number_same s k p w (omega arith), bit_same s k (p + w) (omega arith))

-- whether p bits are there, where the first k bytes would hold them all
enough_same : (s : List ℕ) (k p : ℕ) → p ≤ 8 * k → leb p (8 * length (take k s)) ≡ leb p (8 * length s)
enough_same s k p h = go (dec_le (length s) k)
  where
    go : Dec (length s ≤ k) → leb p (8 * length (take k s)) ≡ leb p (8 * length s)
    go (yes l) = rw take_all
    go (no l) =
        let n : length (take k s) ≡ k = length-take-le k s (omega arith) in
        le-leb p (8 * length (take k s)) (omega arith) ∙ sym (le-leb p (8 * length s) (omega arith))

pub field_within : (w low end n : ℕ) → Within (field w low end n) w (λ v. (low ≤ v) × (v < end))
unfolding field judged
field_within w low end n = record {
  ends = ends;
  same = same;
  goes = goes_field w low end n;
  follows = λ s t e p d. follows_field w low end n s t e p d;
}
  where
    ends : (s : List ℕ) (p v q : ℕ) → field w low end n s p ≡ got v q → (q ≤ p + w) × ((low ≤ v) × (v < end))
    ends s p v q e =
        let g = choose_got (leb (p + w) (8 * length s)) _ e in
        let h = choose_got (both (leb low (number_at s p w)) (ltb (number_at s p w) end)) _ g.1 in
        let d : number_at s p w ≡ v = cc in
        let r : p + w ≡ q = cc in
        let x = leb-true low (number_at s p w) (both_l _ _ h.0) in
        let y = ltb-true (number_at s p w) end (both_r (leb low (number_at s p w)) _ h.0) in
        omega arith

    same : (s : List ℕ) (p k : ℕ) → p + w ≤ 8 * k → field w low end n (take k s) p ≡ field w low end n s p
    same s p k l = rw (enough_same s k (p + w) l, number_same s k p w l)

pub bits_within : (w : ℕ) → Within (bits w) w (λ v. (0 ≤ v) × (v < 2 ^ w))
unfolding bits
bits_within w = field_within w 0 (2 ^ w) 28

-- ---- a field that has to pass a test
passing : {A : Type 0} (w n : ℕ) (s : List ℕ) (p : ℕ) (a : A) (q : ℕ) (b : Bool)
    → (require_in p w b n >> pure a) s q ≡ choose b (got a q) (fault (fault_at n p w))
unfolding ◌>>◌ ◌>>=◌ and_then require_in pure choose
passing w n s p a q true = refl
passing w n s p a q false = refl

tested_is : {A : Type 0} (w : ℕ) (m : Reader A) (ok : A → Bool) (n : ℕ) (s : List ℕ) (p : ℕ)
    → tested w m ok n s p ≡ tested_of ok n p w (m s p)
unfolding tested ◌>>=◌ ◌>>◌ and_then require_in pure tested_of choose
tested_is {A} w m ok n s p = by (m s p)
  where
    by : (o : Parsed A) → and_then o s (λ a. require_in p w (ok a) n >> pure a) ≡ tested_of ok n p w o
    by (got a q) = passing w n s p a q (ok a)
    by (fault f) = refl

pub tested_within : {A : Type 0} {P : A → Type 0} {m : Reader A} (w : ℕ) (ok : A → Bool) (n : ℕ) → Within m w P
    → Within (tested w m ok n) w (λ a. P a × (ok a ≡ true))
unfolding tested_of
tested_within {A} {P} {m} w ok n v = record {
  ends = λ s p a q e. ends s p a q (m s p) refl (sym (tested_is w m ok n s p) ∙ e);
  same = λ s p k l. tested_is w m ok n (take k s) p ∙ ap (tested_of ok n p w) (v.same s p k l) ∙ sym (tested_is w m ok n s p);
  goes = λ s p. rw (tested_is w m ok n s p) (goes_tested ok n p w s (v.goes s p));
  follows = λ s t e p d.
      rw (tested_is w m ok n s p, tested_is w m ok n t p)
      (follows_tested ok n p w s t e (m s p) (m t p) (v.goes s p) (v.follows s t e p d));
}
  where
    ends : (s : List ℕ) (p : ℕ) (a : A) (q : ℕ) (o : Parsed A) → m s p ≡ o → tested_of ok n p w o ≡ got a q
        → (q ≤ p + w) × (P a × (ok a ≡ true))
    ends s p a q (got x r) d e =
        let g = choose_got (ok x) _ e in
        let z : x ≡ a = cc in
        let y : r ≡ q = cc in
        let h = v.ends s p x r d in
        (omega (arith, h.0), (subst P z h.1, ap ok (sym z) ∙ g.0))
    ends s p a q (fault f) d e = no_fault e
