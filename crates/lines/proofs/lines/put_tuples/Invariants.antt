use Rattle.std.proofs.Common.{[], ◌∷◌, ◌≡◌}
use Rattle.lines.specs.Words.{printed}
use Rattle.lines.specs.Lines.{tuple_line}
use Rattle.net.specs.Records.{tuple_at}
use Rattle.text.specs.Joined.{joined}
use Rattle.text.specs.Writer.{after}
use Rattle.lines.proofs.lines.put_tuples.Given as goal

abbrev pub invariant-loop-i : goal.invariant-loop-i
invariant-loop-i l = l.out ≡ after l.fn.out (joined l.i (λ j. printed (tuple_line l.parts l.a (tuple_at l.x j) ∷ [])))
