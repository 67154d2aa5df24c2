-- The lowest number at which a test holds, from outside: what `first_below` gives is settled by the lowest number, and
-- where it gives one, that one is the lowest.
-- Assumes nothing.
use Prim.Native.Nat.{ℕ, zero, suc, ◌+◌, ◌<◌, ◌≤◌}
use mathlib.Core.Path.{◌≡◌, refl, sym}
use mathlib.Core.Bool.{Bool, true, false}
use mathlib.Core.Logic.{◌⊎◌, inl, inr}
use native.Mathlib.Nat.{not-suc-le-zero}
use native.Mathlib.Omega.{arith}
use native.Mathlib.Numerals.{add-one}
use Rattle.net.specs.Choice.{first_from, first_below}
use Rattle.net.proofs.Laws.{split}
use Rattle.net.proofs.Every.{chosen}
use Rattle.net.proofs.FirstLaws.{Left, first_start, first_again, first_here}

-- the test holds at j, which is below n, and at no lower number
pub record Lowest (n : ℕ) (test : ℕ → Bool) (j : ℕ) : Type 0 where
  pub below : j < n
  pub holds : test j ≡ true
  pub before : (i : ℕ) → i < j → test i ≡ false

module _ {A : Type 0} (n : ℕ) (test : ℕ → Bool) (at : ℕ → A) (nothing : A) where
  -- what is left once the test has failed at each number below j
  left_from : (j : ℕ) → j ≤ n → ((i : ℕ) → i < j → test i ≡ false) → Left n test at nothing j
  left_from zero l f = first_start n test at nothing
  left_from (suc j) l f =
      rw add-one at
      (first_again n test at nothing j (test j) (left_from j (omega arith) (λ i h. f i (omega arith))) l refl
      (f j (omega arith)))

  pub first_is : (j : ℕ) → Lowest n test j → first_below n test at nothing ≡ at j
  first_is j h =
      let l : j < n = h.below in
      let left = left_from j (omega arith) h.before in
      sym (first_here n test at nothing j (test j) (at j) left l refl h.holds refl)

below_or :
    (test : ℕ → Bool) (n i : ℕ) → ((j : ℕ) → j < n → test j ≡ false) → test n ≡ false → (i < n) ⊎ (i ≡ n)
    → test i ≡ false
below_or test n i f p (inl l) = f i l
below_or test n i f p (inr e) = rw e p

module _ {A : Type 0} (P : A → Type 0) (n : ℕ) (test : ℕ → Bool) (at : ℕ → A) (nothing : A) where
  from :
      (k i : ℕ) → i + k ≡ n → ((j : ℕ) → j < i → test j ≡ false) → ((j : ℕ) → Lowest n test j → P (at j)) → P nothing
      → P (first_from k i test at nothing)
  unfolding first_from
  from zero i e f found none = none
  from (suc k) i e f found none =
      chosen P (test i) _ _ (λ h. found i (record { below = omega arith; holds = h; before = f }))
      (λ h. from k (suc i) (omega arith) (λ j l. below_or test i j f h (split j i l)) found none)

  -- what holds of nothing, and of each lowest number
  pub first_cases : ((j : ℕ) → Lowest n test j → P (at j)) → P nothing → P (first_below n test at nothing)
  unfolding first_below
  first_cases = from n 0 (omega arith) (λ j l. absurd (not-suc-le-zero l))
