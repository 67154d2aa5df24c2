-- What holds of the figures over a season (document 02, slip 7).
use Rattle.std.specs.Prelude.{Some, None, ℕ, ◌+◌, ◌*◌, ◌≤◌, ◌<◌, ◌≡◌, ◌↔◌, length}
use Rattle.std.specs.Int.{◌∣◌}
use mathlib.Core.List.{List, Memᴰ}
use Rattle.season.specs.Types.{Locality}
use Rattle.season.specs.Fractions.{Fraction, fraction, fraction_at, Best}
use Rattle.season.specs.Season.{Run, MadeRun, made_runs, picks_at, performed_at, left_at, all_picks, all_performed, all_left}
use Rattle.season.specs.Season.{share_over, mean_over, shares_at, best_at, season_of}
use Rattle.season.specs.Sums.{Tally, empty_sums, after_runs, figures_from, season_from}

-- ---- "in lowest terms"

-- x is n over d, and no number above 1 divides its numerator and its denominator; nought is 0/1
pub record InLowestTerms (n d : ℕ) (x : Fraction) : Type 0 where
  pub same : x.numerator * d ≡ n * x.denominator
  pub no_common : (k : ℕ) → k ∣ x.numerator → k ∣ x.denominator → k ≤ 1
  pub nought : n ≡ 0 → x ≡ fraction 0 1

-- each fraction that is printed: shares where there are picks, means where there are runs
pub record LowestTerms : Type 0 where
  pub share :
      (l : Locality) (ms : List MadeRun) → 0 < all_picks l ms
      → InLowestTerms (all_performed l ms) (all_picks l ms) (share_over l ms)
  pub mean :
      (l : Locality) (ms : List MadeRun) → 0 < length ms → InLowestTerms (all_left l ms) (length ms) (mean_over l ms)

-- ---- "the run with the largest share, earliest on a tie", "a run without picks there is passed over"

-- of those with a denominator above nought, none is larger than the one at place i, and none before it is equal
pub record LargestAt (xs : List Fraction) (i : ℕ) : Type 0 where
  pub counted : 0 < (fraction_at xs i).denominator
  pub none_larger :
      (j : ℕ) → 0 < (fraction_at xs j).denominator
      → (fraction_at xs j).numerator * (fraction_at xs i).denominator ≤ (fraction_at xs i).numerator * (fraction_at xs j).denominator
  pub none_earlier :
      (j : ℕ) → j < i → 0 < (fraction_at xs j).denominator
      → (fraction_at xs j).numerator * (fraction_at xs i).denominator < (fraction_at xs i).numerator * (fraction_at xs j).denominator

-- the best is that one, numbered from 1; there is none only where all are passed over
pub data BestIs (xs : List Fraction) : Best → Type 0 where
  none_there : ((j : ℕ) → (fraction_at xs j).denominator ≡ 0) → BestIs xs None
  largest : (i : ℕ) → LargestAt xs i → BestIs xs (Some (i + 1, fraction_at xs i))

unfoldable pub BestIsLargest : Type 0
BestIsLargest = (l : Locality) (ms : List MadeRun) → BestIs (shares_at l ms) (best_at l ms)

-- "an address with no picks prints `none` for its share and its run": for both or for neither
unfoldable pub NoneAlike : Type 0
NoneAlike = (l : Locality) (ms : List MadeRun) → (all_picks l ms ≡ 0) ↔ (best_at l ms ≡ None)

-- ---- how large the numbers are: why those of a season fit 32 bits, and their cross products 64

-- of one run
pub record CountsFit (m : MadeRun) : Type 0 where
  pub picks_most : (l : Locality) → picks_at l m ≤ 65536
  pub performed_most : (l : Locality) → performed_at l m ≤ picks_at l m
  pub left_most : (l : Locality) → left_at l m ≤ 16

-- of up to 1,000 runs
pub record SumsFit (ms : List MadeRun) : Type 0 where
  pub picks_most : (l : Locality) → all_picks l ms ≤ 65536000
  pub performed_most : (l : Locality) → all_performed l ms ≤ all_picks l ms
  pub left_most : (l : Locality) → all_left l ms ≤ 16000

pub record SeasonFits : Type 0 where
  pub each : (runs : List Run) (m : MadeRun) → Memᴰ m (made_runs runs) → CountsFit m
  pub cross :
      (runs : List Run) (m n : MadeRun) → Memᴰ m (made_runs runs) → Memᴰ n (made_runs runs) → (l : Locality)
      → performed_at l m * picks_at l n ≤ 4294967296
  pub all : (runs : List Run) → length (made_runs runs) ≤ 1000 → SumsFit (made_runs runs)

-- ---- "the promise is for sums begun empty and changed by these calls alone": their figures are those of the runs
unfoldable pub SumsGiveSeason : Type 0
SumsGiveSeason = (runs : List Run) → season_from (after_runs empty_sums runs) ≡ season_of runs

-- ---- a buffer of so many bytes has room for the figures, whatever the sums hold
unfoldable pub LongestFigures : Type 0
LongestFigures = (made : ℕ) (ts : List Tally) → length (figures_from made ts) ≤ 2112
