use Rattle.std.proofs.Common.{◌≡◌, [], ◌∷◌}
use Rattle.net.specs.Records.{address_of}
use Rattle.text.specs.Joined.{joined}
use Rattle.text.specs.Writer.{after}
use Rattle.lines.specs.Words.{printed}
use Rattle.season.specs.Sums.{tally_at, tally_line}
use Rattle.season.proofs.figures.put_figures.Given as goal

abbrev pub invariant-loop-a : goal.invariant-loop-a
invariant-loop-a l =
    l.out ≡ after l.fn.out (joined l.a (λ a. printed (tally_line l.fn.sums.runs (address_of a) (tally_at l.fn.sums.tallies a) ∷ [])))
