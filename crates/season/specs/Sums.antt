-- What the sums over runs hold, from which the figures are given without the runs (document 02, slip 7).
pub use Rattle.season.specs.declared.sums.Tally.{Tally}
pub use Rattle.season.specs.declared.sums.Sums.{Sums}
use Rattle.std.specs.Prelude.{None, ℕ, ◌+◌, ◌%◌, List, [], ◌∷◌, get_or, set, replicate, ltb}
use Rattle.net.specs.Choice.{choose, fold}
use Rattle.net.specs.Records.{address_of}
use Rattle.text.specs.Bytes.{bytes}
use Rattle.text.specs.Joined.{joined}
use Rattle.lines.specs.Words.{Word, name, number, printed}
use Rattle.season.specs.Types.{Locality}
use Rattle.season.specs.Fractions.{fraction, lowest, considered}
use Rattle.season.specs.Season.{Run, MadeRun, made_of, performed_at, picks_at, left_at, fraction_word, share_word, best_word}
use Rattle.season.specs.Season.{Season, season_with}

-- a tally holds the two sums of a share, the tuples left and the best run, and sums how many runs were made
unfoldable pub no_tally : Tally
no_tally = record { performed = 0; picks = 0; left = 0; best = None }

unfoldable pub empty_sums : Sums
empty_sums = record { runs = 0; tallies = replicate 16 no_tally }

unfoldable pub tally_at : List Tally → ℕ → Tally
tally_at ts a = get_or ts a no_tally

-- ---- one more run, of number i

-- a sum, cut to 32 bits, so that sums of any content have one; none of up to 1,000 runs is as large
unfoldable pub plus : ℕ → ℕ → ℕ
plus a b = (a + b) % 4294967296

unfoldable pub with_counts : ℕ → ℕ → ℕ → ℕ → Tally → Tally
with_counts i performed picks left t = record {
  performed = plus t.performed performed;
  picks = plus t.picks picks;
  left = plus t.left left;
  best = considered i (fraction performed picks) t.best;
}

unfoldable pub tally_with : ℕ → MadeRun → Locality → Tally → Tally
tally_with i m l t = with_counts i (performed_at l m) (picks_at l m) (left_at l m) t

unfoldable pub tallies_with : ℕ → MadeRun → List Tally → List Tally
tallies_with i m ts = fold 16 (λ a us. set us a (tally_with i m (address_of a) (tally_at us a))) ts

-- the count stops at 1,001, and with it the sums
unfoldable pub with_made : Sums → MadeRun → Sums
with_made s m =
    choose (ltb 1000 s.runs) s (record { runs = s.runs + 1; tallies = tallies_with (s.runs + 1) m s.tallies })

-- a run handed in: a refused image changes nothing
unfoldable pub with_each : Sums → List MadeRun → Sums
with_each s [] = s
with_each s (m ∷ ms) = with_each (with_made s m) ms

unfoldable pub with_run : Sums → Run → Sums
with_run s run = with_each s (made_of run)

-- runs handed in one by one
unfoldable pub after_runs : Sums → List Run → Sums
after_runs s [] = s
after_runs s (run ∷ runs) = after_runs (with_run s run) runs

-- ---- the figures
unfoldable pub tally_words : ℕ → Tally → List Word
tally_words made t =
    share_word t.picks (lowest t.performed t.picks) ∷ fraction_word (lowest t.left made) ∷ best_word t.best ∷ []

unfoldable pub tally_line : ℕ → Locality → Tally → List Word
tally_line made l t = name (bytes "share") ∷ number l.0 ∷ tally_words made t

unfoldable pub figures_from : ℕ → List Tally → List ℕ
figures_from made ts = printed (joined 16 (λ a. tally_line made (address_of a) (tally_at ts a) ∷ []))

unfoldable pub season_from : Sums → Season
season_from s = season_with s.runs (figures_from s.runs s.tallies)
