use Rattle.std.proofs.Common.{[], ◌∷◌, ◌≡◌}
use Rattle.lines.specs.Words.{spaced}
use Rattle.lines.specs.Lines.{item_word}
use Rattle.net.specs.Records.{field_at}
use Rattle.text.specs.Joined.{joined}
use Rattle.text.specs.Writer.{after}
use Rattle.lines.proofs.lines.put_fields.Given as goal

abbrev pub invariant-loop-i : goal.invariant-loop-i
invariant-loop-i l = l.out ≡ after l.fn.out (joined l.i (λ j. spaced (item_word (field_at l.t j) ∷ [])))
