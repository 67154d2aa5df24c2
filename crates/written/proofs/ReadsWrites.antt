-- A logic of readers and writers: a reader (`specs/Reader.antt`) gives a value exactly where the value is in range
-- and its bits (`specs/ImageOf.antt`) stand, and goes on behind them. One law for each way to make a reader.
-- Assumes nothing.
use Prim.Native.Nat.{ℕ, zero, suc, ◌+◌, ◌*◌, ◌^◌, ◌<◌, ◌≤◌}
use mathlib.Core.Path.{◌≡◌, refl, sym, ap, subst, ◌∙◌}
use mathlib.Core.Bool.{Bool, true, false}
use mathlib.Core.List.{List, [], ◌++◌, append-nil}
use native.Mathlib.Omega.{arith}
use lib.ListN.{length, length-append}
use lib.Dec.{leb, ltb}
use borrow.Author.Tests.{leb-true, ltb-true, le-leb, lt-ltb}
use Rattle.net.specs.Choice.{choose, both}
use Rattle.readers.specs.Reader.{Parsed, got, fault, Reader, pure, and_then, ◌>>=◌, ◌>>◌, turns, each}
use Rattle.readers.specs.Reader.{require_in}
use Rattle.bitreader.specs.BitReader.{number_at, judged, field, bits}
use Rattle.written.specs.ImageOf.{bits_of}
use Rattle.text.specs.Joined.{joined}
use Rattle.net.proofs.Laws.{both_i, both_l, both_r, choose_true}
use Rattle.readers.proofs.ReaderLaws.{no_fault, choose_got}
use Rattle.written.proofs.BitsAt.{BitsAt, stands_append, stands_first_law, stands_rest, stands_none}
use Rattle.written.proofs.BitsAt.{bits_length, number_stands, stands_number}

-- from place p to place q stand the bits of a value in range
pub record Bears {A : Type 0} (w : A → List Bool) (P : A → Type 0) (s : List ℕ) (p : ℕ) (a : A) (q : ℕ) : Type 0 where
  pub holds : P a
  pub stands : BitsAt s p (w a)
  pub ends : q ≡ p + length (w a)

-- m gives exactly the values of which P holds, where the bits that w writes for them stand
pub record Reads {A : Type 0} (m : Reader A) (w : A → List Bool) (P : A → Type 0) : Type 0 where
  pub only : (s : List ℕ) (p : ℕ) (a : A) (q : ℕ) → p ≤ 8 * length s → m s p ≡ got a q → Bears w P s p a q
  pub back : (s : List ℕ) (p : ℕ) (a : A) → P a → BitsAt s p (w a) → m s p ≡ got a (p + length (w a))

-- ---- a value, with nothing read
pub reads_pure : {A : Type 0} (a : A) → Reads (pure a) (λ _. []) (λ b. a ≡ b)
unfolding pure
reads_pure {A} a = record { only = only; back = back }
  where
    only : (s : List ℕ) (p : ℕ) (b : A) (q : ℕ) → p ≤ 8 * length s → pure a s p ≡ got b q
        → Bears (λ _. []) (λ c. a ≡ c) s p b q
    only s p b q h e =
        let d : a ≡ b = cc in
        let r : p ≡ q = cc in
        record { holds = d; stands = stands_none s p h; ends = omega arith }

    back : (s : List ℕ) (p : ℕ) (b : A) → a ≡ b → BitsAt s p [] → pure a s p ≡ got b (p + 0)
    back s p b e f = let r : p ≡ p + 0 = omega arith in cc

-- ---- one reader after another

-- two parts make one: what becomes of them, and that each value has them
pub record Joins {A B : Type 0} (w : A → List Bool) (P : A → Type 0) (v : A → B → List Bool) (Q : A → B → Type 0) (w' : B → List Bool) (P' : B → Type 0) : Type 0 where
  pub keeps : (a : A) (b : B) → P a → Q a b → P' b
  pub writes : (a : A) (b : B) → P a → Q a b → w' b ≡ w a ++ v a b
  pub parts : (b : B) → P' b → (a : A) × P a × Q a b

module _ {A B : Type 0} {w : A → List Bool} {P : A → Type 0} {v : A → B → List Bool} {Q : A → B → Type 0}
    {w' : B → List Bool} {P' : B → Type 0} {m : Reader A} {f : A → Reader B} where
  pub reads_then :
      Reads m w P → ((a : A) → P a → Reads (f a) (v a) (Q a)) → Joins w P v Q w' P' → Reads (m >>= f) w' P'
  unfolding ◌>>=◌ and_then
  reads_then r g j = record { only = λ s p b q h e. only s p b q h (m s p) refl e; back = back }
    where
      only : (s : List ℕ) (p : ℕ) (b : B) (q : ℕ) → p ≤ 8 * length s → (o : Parsed A) → m s p ≡ o
          → and_then o s f ≡ got b q → Bears w' P' s p b q
      only s p b q h (fault n) d e = no_fault e
      only s p b q h (got a k) d e =
          let x = r.only s p a k h d in
          let room = x.stands.room in
          let y = (g a x.holds).only s k b q (omega (arith, x.ends)) e in
          let i = j.writes a b x.holds y.holds in
          let at = x.ends in
          let st = stands_append s p (w a) (v a b) x.stands (subst (λ (z : ℕ). BitsAt s z (v a b)) at y.stands) in
          let l : length (w' b) ≡ length (w a) + length (v a b) = ap length i ∙ length-append (w a) (v a b) in
          record {
            holds = j.keeps a b x.holds y.holds;
            stands = subst (BitsAt s p) (sym i) st;
            ends = omega (arith, y.ends);
          }

      back : (s : List ℕ) (p : ℕ) (b : B) → P' b → BitsAt s p (w' b) → and_then (m s p) s f ≡ got b (p + length (w' b))
      back s p b h st =
          let (a, x, y) = j.parts b h in
          let i = j.writes a b x y in
          let st' : BitsAt s p (w a ++ v a b) = subst (BitsAt s p) i st in
          let l : length (w' b) ≡ length (w a) + length (v a b) = ap length i ∙ length-append (w a) (v a b) in
          let at : p + length (w a) + length (v a b) ≡ p + length (w' b) = omega arith in
          let d = r.back s p a x (stands_first_law s p (w a) (v a b) st') in
          let e = (g a x).back s (p + length (w a)) b y (stands_rest s p (w a) (v a b) st') in
          ap (λ o. and_then o s f) d ∙ e ∙ ap (got b) at

-- ---- a field: a number from low up to below end, in its digits
pub record Ranged (low end v : ℕ) : Type 0 where
  pub above : low ≤ v
  pub below : v < end

pub reads_field : (w low end n : ℕ) → end ≤ 2 ^ w → Reads (field w low end n) (bits_of w) (Ranged low end)
unfolding field judged
reads_field w low end n fits = record { only = only; back = back }
  where
    only : (s : List ℕ) (p v q : ℕ) → p ≤ 8 * length s → field w low end n s p ≡ got v q
        → Bears (bits_of w) (Ranged low end) s p v q
    only s p v q l e =
        let g = choose_got (leb (p + w) (8 * length s)) _ e in
        let h = choose_got (both (leb low (number_at s p w)) (ltb (number_at s p w) end)) _ g.1 in
        let d : number_at s p w ≡ v = cc in
        let r : p + w ≡ q = cc in
        let x = leb-true low (number_at s p w) (both_l _ _ h.0) in
        let y = ltb-true (number_at s p w) end (both_r (leb low (number_at s p w)) _ h.0) in
        let z = leb-true (p + w) (8 * length s) g.0 in
        let b = bits_length w v in
        record {
          holds = record { above = omega arith; below = omega arith };
          stands = subst (λ (k : ℕ). BitsAt s p (bits_of w k)) d (number_stands s p w z);
          ends = omega arith;
        }

    back : (s : List ℕ) (p v : ℕ) → Ranged low end v → BitsAt s p (bits_of w v)
        → field w low end n s p ≡ got v (p + length (bits_of w v))
    back s p v h f =
        let b = bits_length w v in
        let r = f.room in
        let at : p + w ≡ p + length (bits_of w v) = omega arith in
        let d = stands_number s p w v (omega (arith, h.below)) f in
        choose_true _ _ _ (le-leb (p + w) (8 * length s) (omega arith))
        ∙ ap (judged low end n p w) d
        ∙ choose_true _ _ _ (both_i _ _ (le-leb low v h.above) (lt-ltb v end h.below))
        ∙ ap (got v) at

-- ---- the same reader, said in other words
module _ {A : Type 0} {w w' : A → List Bool} {P P' : A → Type 0} where
  pub reads_as :
      {m : Reader A} → Reads m w P → ((a : A) → P a → P' a) → ((a : A) → P' a → P a) → ((a : A) → P a → w' a ≡ w a)
      → Reads m w' P'
  reads_as {m} r f g e = record { only = only; back = back }
    where
      only : (s : List ℕ) (p : ℕ) (a : A) (q : ℕ) → p ≤ 8 * length s → m s p ≡ got a q → Bears w' P' s p a q
      only s p a q h d =
          let x = r.only s p a q h d in
          let i = e a x.holds in
          record {
            holds = f a x.holds;
            stands = subst (BitsAt s p) (sym i) x.stands;
            ends = x.ends ∙ ap (λ (b : List Bool). p + length b) (sym i);
          }

      back : (s : List ℕ) (p : ℕ) (a : A) → P' a → BitsAt s p (w' a) → m s p ≡ got a (p + length (w' a))
      back s p a h st =
          let i = e a (g a h) in
          r.back s p a (g a h) (subst (BitsAt s p) i st) ∙ ap (λ (b : List Bool). got a (p + length b)) (sym i)

pub reads_equal :
    {A : Type 0} {w : A → List Bool} {P : A → Type 0} {m : Reader A} (k : Reader A)
    → ((s : List ℕ) (p : ℕ) → k s p ≡ m s p) → Reads m w P → Reads k w P
reads_equal k e r = record {
  only = λ s p a q h d. r.only s p a q h (sym (e s p) ∙ d);
  back = λ s p a h st. e s p ∙ r.back s p a h st;
}

-- ---- a field of any number
pub reads_bits : (w : ℕ) → Reads (bits w) (bits_of w) (λ v. v < 2 ^ w)
unfolding bits
reads_bits w =
    reads_as (reads_field w 0 (2 ^ w) 28 (omega arith)) (λ v h. h.below)
    (λ v h. record { above = omega arith; below = h }) (λ v h. refl)

-- ---- a value made of the one that was read
module _ {A B : Type 0} {w : A → List Bool} {P : A → Type 0} {w' : B → List Bool} {P' : B → Type 0} {m : Reader A} where
  pub reads_map :
      (h : A → B) → Reads m w P → ((a : A) → P a → P' (h a)) → ((a : A) → P a → w' (h a) ≡ w a)
      → ((b : B) → P' b → (a : A) × P a × (h a ≡ b)) → Reads (m >>= (λ a. pure (h a))) w' P'
  reads_map h r keeps writes parts =
      reads_then r (λ a x. reads_pure (h a))
      (record {
        keeps = λ a b x e. subst P' e (keeps a x);
        writes = λ a b x e. ap w' (sym e) ∙ writes a x ∙ sym (append-nil (w a));
        parts = parts;
      })

-- ---- a test, then a value
pub reads_require : {A : Type 0} (at w : ℕ) (ok : Bool) (n : ℕ) (a : A)
    → Reads (require_in at w ok n >> pure a) (λ _. []) (λ b. (ok ≡ true) × (a ≡ b))
unfolding require_in ◌>>◌ ◌>>=◌ and_then pure choose
reads_require at w true n a =
    reads_as (reads_pure a) (λ b e. (refl, e)) (λ b e. e.1) (λ b e. refl)
reads_require at w false n a = record {
  only = λ s p b q h e. no_fault e;
  back = λ s p b h st. let z : ◌≡◌ {A = ℕ} 0 1 = cc h.0 in absurd (omega arith);
}

-- ---- turns, the last one apart
module _ {A : Type 0} (f : ℕ → A → Reader A) where
  then_pure : (o : Parsed A) (s : List ℕ) (g : A → Reader A) → ((a : A) (q : ℕ) → g a s q ≡ got a q) → and_then o s g ≡ o
  unfolding and_then
  then_pure (got a q) s g h = h a q
  then_pure (fault n) s g h = refl

  then_same : (o : Parsed A) (s : List ℕ) (g h : A → Reader A) → ((a : A) (q : ℕ) → g a s q ≡ h a s q)
      → and_then o s g ≡ and_then o s h
  unfolding and_then
  then_same (got a q) s g h e = e a q
  then_same (fault n) s g h e = refl

  then_then : (o : Parsed A) (s : List ℕ) (g h : A → Reader A)
      → and_then o s (λ a. g a >>= h) ≡ and_then (and_then o s g) s h
  unfolding and_then ◌>>=◌
  then_then (got a q) s g h = refl
  then_then (fault n) s g h = refl

  turns_last : (k i : ℕ) (a : A) (s : List ℕ) (p : ℕ) → turns (suc k) i f a s p ≡ (turns k i f a >>= f (k + i)) s p
  unfolding turns ◌>>=◌ and_then pure
  turns_last zero i a s p =
      let e : i ≡ 0 + i = omega arith in
      then_pure (f i a s p) s (turns 0 (suc i) f) (λ b q. refl) ∙ ap (λ (j : ℕ). f j a s p) e
  turns_last (suc k) i a s p =
      let e : k + suc i ≡ suc k + i = omega arith in
      then_same (f i a s p) s (turns (suc k) (suc i) f) (λ b. turns k (suc i) f b >>= f (k + suc i))
      (λ b q. turns_last k (suc i) b s q)
      ∙ then_then (f i a s p) s (turns k (suc i) f) (f (k + suc i))
      ∙ ap (λ (j : ℕ). and_then (and_then (f i a s p) s (turns k (suc i) f)) s (f j)) e

  each_last : (n : ℕ) (a : A) (s : List ℕ) (p : ℕ) → each (suc n) f a s p ≡ (each n f a >>= f n) s p
  unfolding each
  each_last n a s p =
      let e : n + 0 ≡ n = omega arith in
      turns_last n 0 a s p ∙ ap (λ (j : ℕ). (turns n 0 f a >>= f j) s p) e

-- ---- n turns from a₀: S i holds of a value after i turns, T i of the values before and after turn i, and w i writes
-- what turn i read, as any later value tells it
pub record Turning {A : Type 0} (f : ℕ → A → Reader A) (n : ℕ) (w : ℕ → A → List Bool) (S : ℕ → A → Type 0) (T : ℕ → A → A → Type 0) (a₀ : A) : Type 0 where
  pub begins : S 0 a₀
  pub starts : (a : A) → S 0 a → a₀ ≡ a
  pub turn : (i : ℕ) → i < n → (a : A) → S i a → Reads (f i a) (w i) (T i a)
  pub next : (i : ℕ) → i < n → (a b : A) → S i a → T i a b → S (suc i) b
  pub same : (i : ℕ) → i < n → (a b : A) → S i a → T i a b → (j : ℕ) → j < i → w j b ≡ w j a
  pub last : (i : ℕ) → i < n → (b : A) → S (suc i) b → (a : A) × S i a × T i a b

pub joined_same : {A : Type 0} (n : ℕ) (f g : ℕ → List A) → ((j : ℕ) → j < n → f j ≡ g j) → joined n f ≡ joined n g
unfolding joined
joined_same zero f g e = refl
joined_same (suc n) f g e =
    ap (λ x. x ++ f n) (joined_same n f g (λ j h. e j (omega arith))) ∙ ap (λ x. joined n g ++ x) (e n (omega arith))

module _ {A : Type 0} {f : ℕ → A → Reader A} {n : ℕ} {w : ℕ → A → List Bool} {S : ℕ → A → Type 0}
    {T : ℕ → A → A → Type 0} {a₀ : A} where
  reads_to : Turning f n w S T a₀ → (k : ℕ) → k ≤ n → Reads (each k f a₀) (λ b. joined k (λ i. w i b)) (S k)
  unfolding each turns joined
  reads_to t zero h =
      reads_as (reads_pure a₀) (λ b e. subst (S 0) e t.begins) t.starts (λ b e. refl)
  reads_to t (suc k) h =
      reads_equal _ (each_last f k a₀)
      (reads_then (reads_to t k (omega arith)) (t.turn k h)
      (record {
        keeps = t.next k h;
        writes = λ a b x y. ap (λ (z : List Bool). z ++ w k b) (joined_same k _ _ (t.same k h a b x y));
        parts = t.last k h;
      }))

  pub reads_each : Turning f n w S T a₀ → Reads (each n f a₀) (λ b. joined n (λ i. w i b)) (S n)
  reads_each t = reads_to t n (omega arith)
