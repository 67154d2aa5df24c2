-- Describes the code, and is no part of what a reader has to believe: the picks of a run counted for all addresses at
-- once, and the sums with these counts.
pub use Rattle.season.specs.declared.counts.Counts.{Counts}
use Rattle.std.specs.Prelude.{ℕ, ◌+◌, ◌≤◌, ◌≡◌, Bool, not, List, [], ◌∷◌, ◌++◌, get_or, set, replicate, length, eqb, ltb}
use Rattle.net.specs.Choice.{choose, fold}
use Rattle.net.specs.Records.{address_of}
use Rattle.step.specs.Pick.{host_of}
use Rattle.season.specs.Types.{Net}
use Rattle.season.specs.Season.{MadeRun, left_in}
use Rattle.season.specs.Sums.{Tally, Sums, tally_at, plus, with_counts, with_made}

unfoldable pub no_counts : Counts
no_counts = record { performed = replicate 16 0; picks = replicate 16 0 }

-- one more where a pick counts
unfoldable pub one_more : Bool → ℕ → ℕ
one_more counts n = choose counts (plus n 1) n

unfoldable pub bumped : Bool → List ℕ → ℕ → List ℕ
bumped counts ns a = set ns a (one_more counts (get_or ns a 0))

-- the pick of a byte, with its answer
unfoldable pub counted_one : Counts → ℕ → ℕ → Counts
counted_one c b x = record {
  performed = bumped (ltb x 2) c.performed (host_of b).0;
  picks = bumped (not (eqb x 9)) c.picks (host_of b).0;
}

-- the same of the two arrays, before it and after
pub record CountedOne (performed picks : List ℕ) (b x : ℕ) (performed-after picks-after : List ℕ) : Type 0 where
  pub performed_is : performed-after ≡ bumped (ltb x 2) performed (host_of b).0
  pub picks_is : picks-after ≡ bumped (not (eqb x 9)) picks (host_of b).0

-- picks with their answers
unfoldable pub counted : Counts → List ℕ → List ℕ → Counts
counted c [] answers = c
counted c (b ∷ picks) [] = c
counted c (b ∷ picks) (x ∷ answers) = counted (counted_one c b x) picks answers

-- the sums with the counts of a run, and the net that it left
unfoldable pub tally_counted : ℕ → Counts → Net → ℕ → List Tally → List Tally
tally_counted i c s a ts =
    set ts a (with_counts i (get_or c.performed a 0) (get_or c.picks a 0) (left_in (address_of a) s) (tally_at ts a))

unfoldable pub tallies_counted : ℕ → Counts → Net → List Tally → List Tally
tallies_counted i c s ts = fold 16 (tally_counted i c s) ts

unfoldable pub with_counted : Sums → Counts → Net → Sums
with_counted sums c s =
    choose (ltb 1000 sums.runs) sums
    (record { runs = sums.runs + 1; tallies = tallies_counted (sums.runs + 1) c s sums.tallies })

-- answers past those of the picks are not looked at
unfoldable pub CountedIsMade : Type 0
CountedIsMade =
    (sums : Sums) (m : MadeRun) (rest : List ℕ) → length m.picks ≡ length m.answers → length m.picks ≤ 65536
    → with_counted sums (counted no_counts m.picks (m.answers ++ rest)) m.net ≡ with_made sums m
