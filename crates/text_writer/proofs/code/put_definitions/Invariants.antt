use Rattle.std.proofs.Common.{◌≡◌, [], ◌∷◌}
use Rattle.sources.specs.Printed.{lines_text}
use Rattle.net.specs.Records.{instruction_at, place_of}
use Rattle.read_back.specs.NetSource.{definition_at}
use Rattle.text.specs.Joined.{joined}
use Rattle.text.specs.Writer.{after}
use Rattle.text_writer.proofs.code.put_definitions.Given as goal

abbrev pub invariant-loop-i : goal.invariant-loop-i
invariant-loop-i l = (l.out ≡ after l.fn.out (joined l.i (λ j. lines_text (definition_at j (instruction_at l.net.code (place_of j)) ∷ []))))
