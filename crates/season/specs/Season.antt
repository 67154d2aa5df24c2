-- Shares over a season (document 02, slip 7): the runs handed in, and the figures over those that were made.
use Rattle.std.specs.Prelude.{Some, None, ℕ, ◌+◌, Bool, not, List, [], ◌∷◌, ◌++◌, map, length, take, eqb, ltb}
use Rattle.net.specs.Choice.{choose, both}
use Rattle.net.specs.Records.{node_at, address_of}
use Rattle.text.specs.Bytes.{bytes}
use Rattle.text.specs.Decimal.{decimal}
use Rattle.text.specs.Joined.{joined}
use Rattle.step.specs.Pick.{host_of}
use Rattle.run.specs.Run.{Outcome, refused, refused_text, ran, numbers, run_of}
use Rattle.lines.specs.Words.{Word, name, number, printed}
use Rattle.season.specs.Types.{Locality, Net}
use Rattle.season.specs.Fractions.{Fraction, fraction, lowest, Best, best_of}

-- ---- runs, "handed in one by one as image and picks (the first 65,536)"
pub record Run : Type 0 where
  pub image : List ℕ
  pub picks : List ℕ

-- a run that was made: the picks that count, their answers by the paper's numbers, and the final net
pub record MadeRun : Type 0 where
  pub picks : List ℕ
  pub answers : List ℕ
  pub net : Net

-- "a refused image makes no run and takes no number"
unfoldable pub made_in : List ℕ → Outcome → List MadeRun
made_in picks (refused f) = []
made_in picks (refused_text n) = []
made_in picks (ran r) = record { picks = picks; answers = numbers r; net = r.net } ∷ []

unfoldable pub made_of : Run → List MadeRun
made_of run = made_in (take 65536 run.picks) (run_of run.image (take 65536 run.picks))

unfoldable pub made_runs : List Run → List MadeRun
made_runs [] = []
made_runs (run ∷ runs) = made_of run ++ made_runs runs

-- ---- one run at an address

-- how many picks pass a test, which each is put to with its answer
unfoldable pub tallied : (ℕ → ℕ → Bool) → List ℕ → List ℕ → ℕ
tallied test [] answers = 0
tallied test (b ∷ picks) [] = 0
tallied test (b ∷ picks) (x ∷ answers) = choose (test b x) 1 0 + tallied test picks answers

-- "all picks naming it (those answered 9 left out)"
unfoldable pub counts : Locality → ℕ → ℕ → Bool
counts l b x = both (eqb (host_of b).0 l.0) (not (eqb x 9))

-- of these, "the picks answered 0 or 1"
unfoldable pub performs : Locality → ℕ → ℕ → Bool
performs l b x = both (counts l b x) (ltb x 2)

unfoldable pub picks_at : Locality → MadeRun → ℕ
picks_at l m = tallied (counts l) m.picks m.answers

unfoldable pub performed_at : Locality → MadeRun → ℕ
performed_at l m = tallied (performs l) m.picks m.answers

-- the run's share there, not reduced
unfoldable pub share_at : Locality → MadeRun → Fraction
share_at l m = fraction (performed_at l m) (picks_at l m)

-- the "tuples left there"; "an unused address holds no tuples"
unfoldable pub left_in : Locality → Net → ℕ
left_in l s = choose (ltb l.0 s.addresses) (node_at s l).stored 0

unfoldable pub left_at : Locality → MadeRun → ℕ
left_at l m = left_in l m.net

-- ---- all runs at an address
unfoldable pub summed : List ℕ → ℕ
summed [] = 0
summed (n ∷ ns) = n + summed ns

unfoldable pub all_picks : Locality → List MadeRun → ℕ
all_picks l ms = summed (map (picks_at l) ms)

unfoldable pub all_performed : Locality → List MadeRun → ℕ
all_performed l ms = summed (map (performed_at l) ms)

unfoldable pub all_left : Locality → List MadeRun → ℕ
all_left l ms = summed (map (left_at l) ms)

-- "the picks answered 0 or 1 over all picks naming it, as a fraction in lowest terms"
unfoldable pub share_over : Locality → List MadeRun → Fraction
share_over l ms = lowest (all_performed l ms) (all_picks l ms)

-- "the mean number of tuples left there per run likewise"
unfoldable pub mean_over : Locality → List MadeRun → Fraction
mean_over l ms = lowest (all_left l ms) (length ms)

-- "the run with the largest share, earliest on a tie"
unfoldable pub shares_at : Locality → List MadeRun → List Fraction
shares_at l ms = map (share_at l) ms

unfoldable pub best_at : Locality → List MadeRun → Best
best_at l ms = best_of (shares_at l ms)

-- ---- lines: "`share`, address, share, mean, best run (from 1)". A slash is 47

unfoldable pub fraction_word : Fraction → Word
fraction_word x = name (decimal x.numerator ++ 47 ∷ decimal x.denominator)

-- "an address with no picks prints `none` for its share and its run"
unfoldable pub share_word : ℕ → Fraction → Word
share_word picks x = choose (eqb picks 0) (name (bytes "none")) (fraction_word x)

unfoldable pub best_word : Best → Word
best_word None = name (bytes "none")
best_word (Some (i, x)) = number i

unfoldable pub share_line : Locality → List MadeRun → List Word
share_line l ms =
    name (bytes "share") ∷ number l.0 ∷ share_word (all_picks l ms) (share_over l ms) ∷ fraction_word (mean_over l ms)
    ∷ best_word (best_at l ms) ∷ []

-- "each address from 0 to 15 has a line"
unfoldable pub figures_of : List MadeRun → List ℕ
figures_of ms = printed (joined 16 (λ a. share_line (address_of a) ms ∷ []))

-- ---- what is known when the figures are asked for: "44 no runs at all, 45 more than 1,000 runs", or the figures' bytes
pub data Season : Type 0 where
  no_runs : Season
  too_many : Season
  figures : List ℕ → Season

unfoldable pub season_with : ℕ → List ℕ → Season
season_with made text = choose (eqb made 0) no_runs (choose (ltb 1000 made) too_many (figures text))

unfoldable pub season_of : List Run → Season
season_of runs = season_with (length (made_runs runs)) (figures_of (made_runs runs))
