-- Tests that agree at each number below a bound (`first_below` of `Choice.antt` of `net`), and the lowest number at which one
-- holds, as a number. Assumes nothing.
use Prim.Native.Nat.{ℕ, zero, suc, ◌+◌, ◌<◌}
use mathlib.Core.Path.{◌≡◌, refl, sym, ap, ◌∙◌}
use mathlib.Core.Bool.{Bool, true, false}
use native.Mathlib.Omega.{arith}
use lib.Dec.{ltb}
use borrow.Author.Tests.{lt-ltb, le-ltb}
use Rattle.net.specs.Choice.{choose, both, implies, first_from, first_below}
use Rattle.net.proofs.Laws.{choose_false}

-- the second of two tests, where the first holds
pub both_as : (a b c : Bool) → (a ≡ true → b ≡ c) → both a b ≡ both a c
unfolding both
both_as true b c f = f refl
both_as false b c f = refl

pub implied : (a b : Bool) → (a ≡ false → b ≡ true) → b ≡ implies a b
unfolding implies
implied true b f = refl
implied false b f = f refl

module _ {A : Type 0} (n : ℕ) (f g : ℕ → Bool) (at : ℕ → A) (nothing : A) (same : (i : ℕ) → i < n → f i ≡ g i) where
  same_from : (k i : ℕ) → i + k ≡ n → first_from k i f at nothing ≡ first_from k i g at nothing
  unfolding first_from
  same_from zero i e = refl
  same_from (suc k) i e =
      ap (λ (b : Bool). choose b (at i) (first_from k (suc i) f at nothing)) (same i (omega arith))
      ∙ ap (choose (g i) (at i)) (same_from k (suc i) (omega arith))

  pub first_same : first_below n f at nothing ≡ first_below n g at nothing
  unfolding first_below
  first_same = same_from n 0 (omega arith)

module _ {A : Type 0} (n : ℕ) (test : ℕ → Bool) (at : ℕ → A) (nothing : A) where
  -- what a number stands for: itself, or that there is none
  abbrev named : ℕ → A
  named j = choose (ltb j n) (at j) nothing

  turned : (i : ℕ) (b : Bool) (x : A) (y : ℕ) → i < n → x ≡ named y → choose b (at i) x ≡ named (choose b i y)
  unfolding choose
  turned i true x y l e = rw (lt-ltb i n l)
  turned i false x y l e = e

  number_from : (k i : ℕ) → i + k ≡ n → first_from k i test at nothing ≡ named (first_from k i test (λ j. j) n)
  unfolding first_from
  number_from zero i e = sym (choose_false _ _ _ (le-ltb n n (omega arith)))
  number_from (suc k) i e = turned i (test i) _ _ (omega arith) (number_from k (suc i) (omega arith))

  pub first_number :
      first_below n test at nothing
      ≡ choose (ltb (first_below n test (λ j. j) n) n) (at (first_below n test (λ j. j) n)) nothing
  unfolding first_below
  first_number = number_from n 0 (omega arith)
