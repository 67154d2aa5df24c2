use Rattle.std.proofs.Common.{[], ◌∷◌, ◌+◌, ◌≡◌, get_or}
use Rattle.lines.specs.Words.{printed}
use Rattle.lines.specs.Lines.{made_line}
use Rattle.text.specs.Joined.{joined}
use Rattle.text.specs.Writer.{after}
use Rattle.lines.proofs.lines.put_picks.Given as goal

abbrev pub invariant-loop-i : goal.invariant-loop-i
invariant-loop-i l = l.out ≡ after l.fn.out (joined l.i (λ j. printed (made_line (j + 1) (get_or l.picks j 0) (get_or l.answers j 0) ∷ [])))
