-- `all` of a chain of iterators over an array is `all` of `specs/Choice.antt` over the array's indices, without and with
-- `enumerate`. Assumes nothing.
use Rattle.std.proofs.Common.{Option, ℕ, zero, suc, ◌+◌, ◌≡◌, refl, ap, ◌∙◌, sym, Bool, true, false, List, [], ◌∷◌, length, get_or, replicate, ◌<◌, arith, add-one}
use mathlib.Core.Bool.{◌&&◌}
use Rattle.std.specs.List.{list_all, enumerate_from, range_with_len, FoldsTo}
use Rattle.std.specs.Bool.{MatchBool}
use Rattle.std.specs.Option.{MatchOption}
use Rattle.std.specs.Fn.{Called}
use Rattle.std.specs.Iterator.{YieldsThen}
use Rattle.std.specs.Iterator.Adapters.{enumerate_source, enumerate_count, enumerate_steps}
use Rattle.std.specs.declared.iter.Enumerate.{Enumerate}
use Rattle.std.proofs.lemmas.Iterator.{YieldsList}
use Rattle.std.proofs.lemmas.Iterator.Consumers.{YieldsList-from_enumerate}
use Rattle.std.proofs.lemmas.Iterator.Search.{all_from_yields_List}
use lib.Pointwise.{pointwise}
use denote.Param.Members.{Mut}
use Rattle.net.specs.Choice.{both, all}
use Rattle.net.proofs.AllLaws.{all_same}

-- ---- the last number of `all` comes off at the front as well
and_last : (a b c : Bool) → both (a && b) c ≡ (a && both b c)
unfolding both
and_last true b c = refl
and_last false b c = refl

and_end : (a : Bool) → a ≡ (a && true)
and_end true = refl
and_end false = refl

pub front : (n : ℕ) (t : ℕ → Bool) → all (suc n) t ≡ (t 0 && all n (λ i. t (suc i)))
unfolding all both
front zero t = and_end (t 0)
front (suc n) t = ap (λ (b : Bool). both b (t (suc n))) (front n t) ∙ and_last (t 0) (all n (λ i. t (suc i))) (t (suc n))

-- ---- the tests of a list's items, and of the items from the number k on
module _ {X : Type 0} (d : X) where
  each : (test : X → Bool) (xs : List X) → list_all test xs ≡ all (length xs) (λ i. test (get_or xs i d))
  unfolding all
  each test [] = refl
  each test (x ∷ xs) =
      ap (λ (b : Bool). test x && b) (each test xs) ∙ sym (front (length xs) (λ i. test (get_or (x ∷ xs) i d)))

  numbered :
      (test : ℕ × X → Bool) (k : ℕ) (xs : List X)
      → list_all test (enumerate_from k xs) ≡ all (length xs) (λ i. test (k + i, get_or xs i d))
  unfolding all
  numbered test k [] = refl
  numbered test k (x ∷ xs) =
      let later : (i : ℕ) → test (k + 1 + i, get_or xs i d) ≡ test (k + suc i, get_or xs i d) =
      λ i. let e : k + 1 + i ≡ k + suc i = omega arith in rw e refl in
      let rest = numbered test (k + 1) xs ∙ all_same (length xs) _ _ (λ i l. later i) in
      let first : k ≡ k + 0 = omega arith in
      ap (λ (b : Bool). test (k, x) && b) rest ∙
      ap (λ (m : ℕ). test (m, x) && all (length xs) (λ i. test (k + suc i, get_or xs i d))) first ∙
      sym (front (length xs) (λ i. test (k + i, get_or (x ∷ xs) i d)))

-- ---- what `all` answers over an array of n items, by a test of an item or of its number and the item
module _ {S A X F : Type 0} {steps : S → Option A → S → Type 0} {v : A → X} {g : Mut F (A × Unit {0}) Bool} where
  pub all_of :
      {s : S} {items : List X} (d : X) (n : ℕ) (test : X → Bool) (u : S) (f : F) (r : Bool)
      →
      (xs : List A)
      × (o : Option A)
      × (j : F)
      × YieldsThen steps s xs o u
      × FoldsTo (λ p x q. Called g p (x, tt) true q) f xs j
      × MatchOption o (r ≡ true) (λ x. (r ≡ false) × ((h : F) × Called g j (x, tt) false h))
      → YieldsList steps v s items → ((x : A) (b : Bool) (q : F) → Called g f (x, tt) b q → (q ≡ f) × (b ≡ test (v x)))
      → length items ≡ n → r ≡ all n (λ i. test (get_or items i d))
  all_of {items = items} d n test u f r ran yields judged long = all_from_yields_List test u f r ran yields judged ∙ rw (← long) (each d test items)

module _ {S A X F : Type 0} {steps : S → Option A → S → Type 0} {v : A → X} {g : Mut F ((ℕ × A) × Unit {0}) Bool} where
  pub all_numbered :
      {s : Enumerate S} {items : List X} (d : X) (n : ℕ) (test : ℕ → X → Bool) (u : Enumerate S) (f : F) (r : Bool)
      →
      (xs : List (ℕ × A))
      × (o : Option (ℕ × A))
      × (j : F)
      × YieldsThen (enumerate_steps steps) s xs o u
      × FoldsTo (λ p x q. Called g p (x, tt) true q) f xs j
      × MatchOption o (r ≡ true) (λ x. (r ≡ false) × ((h : F) × Called g j (x, tt) false h))
      → YieldsList steps v (enumerate_source s) items → enumerate_count s ≡ 0
      → ((x : ℕ × A) (b : Bool) (q : F) → Called g f (x, tt) b q → (q ≡ f) × (b ≡ test x.0 (v x.1)))
      → length items ≡ n → r ≡ all n (λ i. test i (get_or items i d))
  all_numbered {items = items} d n test u f r ran yields first judged long =
      let from_zero : (i : ℕ) → test (0 + i) (get_or items i d) ≡ test i (get_or items i d) =
      λ i. let e : 0 + i ≡ i = omega arith in rw e refl in
      all_from_yields_List (λ p. test p.0 p.1) u f r ran (YieldsList-from_enumerate yields first) judged ∙
      rw (← long) (numbered d (λ p. test p.0 p.1) 0 items ∙ all_same (length items) _ _ (λ i l. from_zero i))

-- ---- derived `==` of an array with an array of one value, by the test that `==` is there
module _ {X : Type 0} (E : X → X → Bool) (z d : X) (test : X → Bool) where
  alike :
      (xs : List X) → ((i : ℕ) → i < length xs → E (get_or xs i d) z ≡ test (get_or xs i d))
      → pointwise E xs (replicate (length xs) z) ≡ all (length xs) (λ i. test (get_or xs i d))
  unfolding all
  alike [] same = refl
  alike (x ∷ xs) same =
      ap (λ (b : Bool). b && pointwise E xs (replicate (length xs) z)) (same 0 (omega arith)) ∙
      ap (λ (b : Bool). test x && b) (alike xs (λ i l. same (suc i) (omega arith))) ∙
      sym (front (length xs) (λ i. test (get_or (x ∷ xs) i d)))

  pub all_alike :
      (n : ℕ) (xs : List X) → length xs ≡ n → ((i : ℕ) → i < length xs → E (get_or xs i d) z ≡ test (get_or xs i d))
      → pointwise E xs (replicate n z) ≡ all n (λ i. test (get_or xs i d))
  all_alike n xs long same = rw (← long) (alike xs same)

module _ {X Y : Type 0} (E : X → Y → Bool) (d : X) (e : Y) (test : X → Y → Bool) (same : (x : X) (y : Y) → E x y ≡ test x y) where
  paired :
      (xs : List X) (ys : List Y) → length xs ≡ length ys
      → pointwise E xs ys ≡ all (length xs) (λ i. test (get_or xs i d) (get_or ys i e))
  unfolding all
  paired [] [] l = refl
  paired [] (y ∷ ys) l = absurd (omega arith)
  paired (x ∷ xs) [] l = absurd (omega arith)
  paired (x ∷ xs) (y ∷ ys) l =
      ap (λ (b : Bool). b && pointwise E xs ys) (same x y) ∙ ap (λ (b : Bool). test x y && b) (paired xs ys (omega arith)) ∙
      sym (front (length xs) (λ i. test (get_or (x ∷ xs) i d) (get_or (y ∷ ys) i e)))

  pub all_paired :
      (n : ℕ) (xs : List X) (ys : List Y) → length xs ≡ n → length ys ≡ n
      → pointwise E xs ys ≡ all n (λ i. test (get_or xs i d) (get_or ys i e))
  all_paired n xs ys p q = rw (← p) (paired xs ys (omega arith))

-- ---- `all` over a range is `all` of its numbers
ranged : (test : ℕ → Bool) (k n : ℕ) → list_all test (range_with_len k n) ≡ all n (λ i. test (k + i))
unfolding all
ranged test k zero = refl
ranged test k (suc n) =
    let later : (i : ℕ) → test (k + 1 + i) ≡ test (k + suc i) = λ i. let e : k + 1 + i ≡ k + suc i = omega arith in rw e refl in
    let rest = ranged test (k + 1) n ∙ all_same n _ _ (λ i l. later i) in
    let first : k ≡ k + 0 = omega arith in
    ap (λ (b : Bool). test k && b) rest ∙ ap (λ (m : ℕ). test m && all n (λ i. test (k + suc i))) first ∙
    sym (front n (λ i. test (k + i)))

pub all_ranged :
    {S A F : Type 0} {steps : S → Option A → S → Type 0} {v : A → ℕ} {g : Mut F (A × Unit {0}) Bool} {s : S} (n : ℕ)
    (test : ℕ → Bool) (u : S) (f : F) (r : Bool)
    → (xs : List A)
    × (o : Option A)
    × (j : F)
    × YieldsThen steps s xs o u
    × FoldsTo (λ p x q. Called g p (x, tt) true q) f xs j
    × MatchOption o (r ≡ true) (λ x. (r ≡ false) × ((h : F) × Called g j (x, tt) false h))
    → YieldsList steps v s (range_with_len 0 n)
    → ((x : A) (b : Bool) (q : F) → Called g f (x, tt) b q → (q ≡ f) × (b ≡ test (v x)))
    → r ≡ all n test
all_ranged n test u f r ran yields judged =
    let from_zero : (i : ℕ) → test (0 + i) ≡ test i = λ i. let e : 0 + i ≡ i = omega arith in rw e refl in
    all_from_yields_List test u f r ran yields judged ∙ (ranged test 0 n ∙ all_same n _ _ (λ i l. from_zero i))
