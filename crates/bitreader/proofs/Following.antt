-- How a reader of bits goes on from a place, and how it follows itself from one image to another (`specs/BitReader.antt`,
-- `specs/SameBits.antt`): of outcomes, for the logic of `Budget.antt`. Assumes nothing.
use Prim.Native.Nat.{ℕ, zero, suc, ◌+◌, ◌*◌, ◌<◌, ◌≤◌}
use mathlib.Core.Path.{◌≡◌, refl, sym, ap, subst, ◌∙◌}
use mathlib.Core.Bool.{Bool, true, false}
use mathlib.Core.List.{List}
use native.Mathlib.Nat.{le_trans}
use native.Mathlib.Omega.{arith}
use native.Mathlib.Decide.{dec_le}
use lib.ListN.{length}
use borrow.Author.Tests.{le-leb, lt-leb}
use Rattle.net.specs.Choice.{choose}
use Rattle.readers.specs.Reader.{Parsed, got, fault, Reader, and_then, fault_at, field_end}
use Rattle.bitreader.specs.Types.{Fault}
use Rattle.bitreader.specs.BitReader.{number_at, judged, field}
use Rattle.bitreader.specs.SameBits.{SameBits}
use Rattle.net.proofs.Laws.{choose_true, choose_false}

-- from place p on an outcome goes forward by at most b bits and not past the end, and so does the place of a fault
pub data Goes {A : Type 0} (s : List ℕ) (p b : ℕ) : Parsed A → Type 0 where
  forward : {a : A} {q : ℕ} → p ≤ q → q ≤ p + b → (p ≤ 8 * length s → q ≤ 8 * length s) → Goes s p b (got a q)
  stopped :
      {f : Fault} → f.place ≤ p + b → p ≤ field_end f → (p ≤ 8 * length s → f.place ≤ 8 * length s) → Goes s p b (fault f)

-- 28 at one of the first e bits or just after them
pub data Cut {A : Type 0} (e : ℕ) : Parsed A → Type 0 where
  cut : (at w : ℕ) → at ≤ e → Cut e (fault (fault_at 28 at w))

-- what came of a reader from place p on one image within e bits comes of it on the image t; where it went beyond them and t
-- has no more, it is cut
unfoldable pub Follows : {A : Type 0} → List ℕ → ℕ → ℕ → Parsed A → Parsed A → Type 0
Follows t e p (got a q) o = (q ≤ e → o ≡ got a q) × (p ≤ e → e < q → 8 * length t ≡ e → Cut e o)
Follows t e p (fault f) o = field_end f ≤ e → o ≡ fault f

-- ---- one reader after another
goes_on : {B : Type 0} (s : List ℕ) (p b q c : ℕ) {o : Parsed B} → p ≤ q → q ≤ p + b → (p ≤ 8 * length s → q ≤ 8 * length s)
    → Goes s q c o → Goes s p (b + c) o
goes_on s p b q c l h k (forward {q = r} x y z) = forward {q = r} (omega arith) (omega arith) (λ i. z (k i))
goes_on s p b q c l h k (stopped {f} x y z) = stopped {f = f} (omega arith) (le_trans l y) (λ i. z (k i))

module _ {A B : Type 0} (s : List ℕ) (p b c : ℕ) (f : A → Reader B) where
  pub goes_then : {o : Parsed A} → Goes s p b o → ((a : A) (q : ℕ) → o ≡ got a q → Goes s q c (f a s q)) → Goes s p (b + c) (and_then o s f)
  unfolding and_then
  goes_then (forward {a} {q} l h k) g = goes_on s p b q c l h k (g a q refl)
  goes_then (stopped {f = n} x y z) g = stopped {f = n} (omega arith) y z

pub goes_wide : {A : Type 0} {s : List ℕ} {p b c : ℕ} {o : Parsed A} → b ≤ c → Goes s p b o → Goes s p c o
goes_wide l (forward {q} x y z) = forward {q = q} x (omega arith) z
goes_wide l (stopped {f} x y z) = stopped {f = f} (omega arith) y z

module _ {A B : Type 0} (s t : List ℕ) (e p : ℕ) (f : A → Reader B) where
  pub cut_then : {o : Parsed A} → Cut e o → Cut {A = B} e (and_then o t f)
  unfolding and_then
  cut_then (cut at w l) = cut at w l

  -- after a value at place q
  after : (a : A) (q c : ℕ) (o : Parsed A) (x : Parsed B) → Follows t e p (got a q) o → Goes s q c x → Follows t e q x (f a t q)
      → Follows t e p x (and_then o t f)
  unfolding and_then Follows
  after a q c o (got b r) h (forward l _ _) k = (
    (λ m. ap (λ (y : Parsed A). and_then y t f) (h.0 (omega arith)) ∙ k.0 m),
    (λ i j g. by (dec_le q e) i j g),
  )
    where
      by : Dec (q ≤ e) → p ≤ e → e < r → 8 * length t ≡ e → Cut e (and_then o t f)
      by (yes m) i j g = subst (λ (y : Parsed A). Cut {A = B} e (and_then y t f)) (sym (h.0 m)) (k.1 m j g)
      by (no m) i j g = cut_then (h.1 i (omega arith) g)
  after a q c o (fault g) h (stopped _ l _) k = λ m. ap (λ (y : Parsed A). and_then y t f) (h.0 (le_trans l m)) ∙ k m

  pub follows_then : (b c : ℕ) (o o' : Parsed A) → Follows t e p o o'
      → ((a : A) (q : ℕ) → o ≡ got a q → Goes s q c (f a s q)) → ((a : A) (q : ℕ) → o ≡ got a q → Follows t e q (f a s q) (f a t q))
      → Follows t e p (and_then o s f) (and_then o' t f)
  unfolding and_then Follows
  follows_then b c (got a q) o' h g k = after a q c o' (f a s q) h (g a q refl) (k a q refl)
  follows_then b c (fault n) o' h g k = λ m. ap (λ (y : Parsed A). and_then y t f) (h m)

-- ---- a field
number_same : (s t : List ℕ) (e p w : ℕ) → SameBits e s t → p + w ≤ e → number_at t p w ≡ number_at s p w
unfolding number_at
number_same s t e p zero h l = refl
number_same s t e p (suc w) h l = cc (number_same s t e p w h (omega arith), h.same (p + w) (omega arith))

module _ (w low end n : ℕ) where
  pub field_same : (s t : List ℕ) (e p : ℕ) → SameBits e s t → p + w ≤ e → field w low end n t p ≡ field w low end n s p
  unfolding field
  field_same s t e p h l =
      rw (
        number_same s t e p w h l,
        le-leb (p + w) (8 * length t) (omega (arith, h.second)),
        le-leb (p + w) (8 * length s) (omega (arith, h.first)),
      )

  pub field_cut : (t : List ℕ) (p : ℕ) → 8 * length t < p + w → field w low end n t p ≡ fault (fault_at 28 p w)
  unfolding field
  field_cut t p l = choose_false _ _ _ (lt-leb (p + w) (8 * length t) l)

  -- what a field comes to: its value and the place after it, or a fault in it
  pub data OfField (s : List ℕ) (p : ℕ) : Parsed ℕ → Type 0 where
    good : {v : ℕ} → p + w ≤ 8 * length s → OfField s p (got v (p + w))
    bad : (m : ℕ) → OfField s p (fault (fault_at m p w))

  of_judged : (s : List ℕ) (p v : ℕ) (b : Bool) → p + w ≤ 8 * length s → OfField s p (choose b (got v (p + w)) (fault (fault_at n p w)))
  unfolding choose
  of_judged s p v true l = good l
  of_judged s p v false l = bad n

  of_field : (s : List ℕ) (p : ℕ) → Dec (p + w ≤ 8 * length s) → OfField s p (field w low end n s p)
  unfolding field judged
  of_field s p (yes l) = rw (choose_true _ _ _ (le-leb (p + w) (8 * length s) l)) (of_judged s p _ _ l)
  of_field s p (no l) = rw (choose_false _ _ _ (lt-leb (p + w) (8 * length s) (omega arith))) (bad 28)

  field_form : (s : List ℕ) (p : ℕ) → OfField s p (field w low end n s p)
  field_form s p = of_field s p (dec_le (p + w) (8 * length s))

  goes_form : (s : List ℕ) (p : ℕ) {o : Parsed ℕ} → OfField s p o → Goes s p w o
  unfolding field_end fault_at
  goes_form s p (good l) = forward {q = p + w} (omega arith) (omega arith) (λ _. l)
  goes_form s p (bad m) = stopped {f = fault_at m p w} (omega arith) (omega arith) (λ i. i)

  pub goes_field : (s : List ℕ) (p : ℕ) → Goes s p w (field w low end n s p)
  goes_field s p = goes_form s p (field_form s p)

  follows_form : (s t : List ℕ) (e p : ℕ) {o : Parsed ℕ} → OfField s p o → (p + w ≤ e → field w low end n t p ≡ o)
      → Follows t e p o (field w low end n t p)
  unfolding field_end fault_at Follows
  follows_form s t e p (good l) h =
      (h, (λ i j k. subst (λ (y : Parsed ℕ). Cut e y) (sym (field_cut t p (omega arith))) (cut p w i)))
  follows_form s t e p (bad m) h = h

  pub follows_field : (s t : List ℕ) (e p : ℕ) → SameBits e s t → Follows t e p (field w low end n s p) (field w low end n t p)
  follows_field s t e p h = follows_form s t e p (field_form s p) (field_same s t e p h)

-- ---- a field that has to pass a test
module _ {A : Type 0} (ok : A → Bool) (n p w : ℕ) where
  unfoldable pub tested_of : Parsed A → Parsed A
  tested_of (got a q) = choose (ok a) (got a q) (fault (fault_at n p w))
  tested_of (fault f) = fault f

  goes_passing : (s : List ℕ) {a : A} {q : ℕ} (b : Bool) → Goes s p w (got a q)
      → Goes s p w (choose b (got a q) (fault (fault_at n p w)))
  unfolding choose field_end fault_at
  goes_passing s true g = g
  goes_passing s false g = stopped {f = fault_at n p w} (omega arith) (omega arith) (λ i. i)

  pub goes_tested : (s : List ℕ) {o : Parsed A} → Goes s p w o → Goes s p w (tested_of o)
  unfolding tested_of
  goes_tested s (forward {a} {q} l h k) = goes_passing s (ok a) (forward l h k)
  goes_tested s (stopped x y z) = stopped x y z

  cut_tested : {e : ℕ} {o : Parsed A} → Cut e o → Cut e (tested_of o)
  unfolding tested_of
  cut_tested (cut at v l) = cut at v l

  follows_passing : (t : List ℕ) (e : ℕ) (a : A) (q : ℕ) (o : Parsed A) (b : Bool) → ok a ≡ b → q ≤ p + w → Follows t e p (got a q) o
      → Follows t e p (choose b (got a q) (fault (fault_at n p w))) (tested_of o)
  unfolding choose tested_of field_end fault_at Follows
  follows_passing t e a q o true d l h =
      ((λ m. ap tested_of (h.0 m) ∙ choose_true _ _ _ d), (λ i j k. cut_tested (h.1 i j k)))
  follows_passing t e a q o false d l h = λ m. ap tested_of (h.0 (omega arith)) ∙ choose_false _ _ _ d

  pub follows_tested : (s t : List ℕ) (e : ℕ) (o o' : Parsed A) → Goes s p w o → Follows t e p o o' → Follows t e p (tested_of o) (tested_of o')
  unfolding tested_of Follows
  follows_tested s t e (got a q) o' (forward l h k) f = follows_passing t e a q o' (ok a) refl h f
  follows_tested s t e (fault g) o' (stopped x y z) f = λ m. ap tested_of (f m)
