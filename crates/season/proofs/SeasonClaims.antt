-- The claims of `specs/SeasonClaims.antt`. Assumes nothing.
use Prim.Native.Nat.{ℕ, zero, suc, ◌≤◌}
use mathlib.Core.Path.{◌≡◌, refl}
use mathlib.Core.List.{List, [], ◌∷◌}
use native.Mathlib.Omega.{arith}
use Rattle.std.specs.Prelude.{Some, None}
use Rattle.season.specs.Types.{Locality}
use Rattle.season.specs.Fractions.{Best, fraction, fraction_at}
use Rattle.season.specs.Season.{MadeRun, share_at, summed, all_picks, shares_at, best_at, share_over, mean_over}
use Rattle.season.specs.SeasonClaims.{LowestTerms, BestIs, none_there, largest, BestIsLargest, NoneAlike}
use Rattle.season.proofs.Lowest.{lowest_terms_law}
use Rattle.season.proofs.BestIs.{best_is}

pub lowest_terms : LowestTerms
unfolding share_over mean_over
lowest_terms = record { share = λ l ms h. lowest_terms_law _ _ h; mean = λ l ms h. lowest_terms_law _ _ h }

pub best_is_largest : BestIsLargest
unfolding BestIsLargest best_at
best_is_largest l ms = best_is (shares_at l ms)

-- ---- there are no picks at all where no run has any
module _ (l : Locality) where
  some_most : (ms : List MadeRun) (j : ℕ) → (fraction_at (shares_at l ms) j).denominator ≤ all_picks l ms
  unfolding fraction_at shares_at all_picks summed share_at fraction
  some_most [] j = omega arith
  some_most (m ∷ ms) zero = omega arith
  some_most (m ∷ ms) (suc j) = let rest = some_most ms j in omega (arith, rest)

  none_none : (ms : List MadeRun) → ((j : ℕ) → (fraction_at (shares_at l ms) j).denominator ≡ 0) → all_picks l ms ≡ 0
  unfolding fraction_at shares_at all_picks summed share_at fraction
  none_none [] h = refl
  none_none (m ∷ ms) h =
      let first = h 0 in
      let rest = none_none ms (λ j. h (suc j)) in
      omega (arith, first, rest)

  module _ (ms : List MadeRun) where
    nobody_best : (best : Best) → BestIs (shares_at l ms) best → all_picks l ms ≡ 0 → best ≡ None
    nobody_best best (none_there h) e = refl
    nobody_best best (largest i h) e = let most = some_most ms i in absurd (omega (arith, most, h.counted))

    best_nobody : (best : Best) → BestIs (shares_at l ms) best → best ≡ None → all_picks l ms ≡ 0
    best_nobody best (none_there h) e = none_none ms h
    best_nobody best (largest i h) e = let z : ◌≡◌ {A = ℕ} 0 1 = cc in absurd (omega arith)

pub none_alike : NoneAlike
unfolding NoneAlike BestIsLargest
none_alike l ms = (nobody_best l ms _ (best_is_largest l ms), best_nobody l ms _ (best_is_largest l ms))
