-- Laws of `Each` (`specs/WellFormed.antt`): what holds of each element, together with a test at each place. Assumes nothing.
use Prim.Native.Nat.{ℕ, zero, suc, ◌<◌}
use mathlib.Core.Path.{◌≡◌}
use mathlib.Core.Bool.{Bool, true}
use mathlib.Core.List.{List, [], ◌∷◌, ◌++◌}
use native.Mathlib.Omega.{arith}
use lib.ListN.{length, get_or}
use Rattle.sources.specs.WellFormed.{Each, none, more}

module _ {A : Type 0} {R Q : List A → A → Type 0} where
  pub each_as : ((xs : List A) (y : A) → R xs y → Q xs y) → (xs ys : List A) → Each R xs ys → Each Q xs ys
  each_as f xs [] none = none
  each_as f xs (y ∷ ys) (more x e) = more (f xs y x) (each_as f (xs ++ (y ∷ [])) ys e)

  -- z stands past the end
  module _ (test : A → Bool) (z : A) where
    pub each_tested :
        ((xs : List A) (y : A) → R xs y → test y ≡ true → Q xs y) → (xs ys : List A) → Each R xs ys
        → ((i : ℕ) → i < length ys → test (get_or ys i z) ≡ true) → Each Q xs ys
    each_tested f xs [] none h = none
    each_tested f xs (y ∷ ys) (more x e) h =
        more (f xs y x (h 0 (omega arith))) (each_tested f (xs ++ (y ∷ [])) ys e (λ i l. h (suc i) (omega arith)))

module _ {A : Type 0} {R : List A → A → Type 0} (test : A → Bool) (z : A) where
  pub test_each :
      ((xs : List A) (y : A) → R xs y → test y ≡ true) → (xs ys : List A) → Each R xs ys → (i : ℕ) → i < length ys
      → test (get_or ys i z) ≡ true
  test_each f xs [] none i h = absurd (omega arith)
  test_each f xs (y ∷ ys) (more x e) zero h = f xs y x
  test_each f xs (y ∷ ys) (more x e) (suc i) h = test_each f (xs ++ (y ∷ [])) ys e i (omega arith)
