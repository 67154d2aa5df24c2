use Rattle.std.proofs.Common.{◌≡◌}
use Rattle.sources.specs.Printed.{lines_text}
use Rattle.net.specs.Records.{address_of}
use Rattle.read_back.specs.NetSource.{lines_at}
use Rattle.text.specs.Joined.{joined}
use Rattle.text.specs.Writer.{after}
use Rattle.text_writer.proofs.nodes.put_nodes.Given as goal

abbrev pub invariant-loop-i : goal.invariant-loop-i
invariant-loop-i l = (l.out ≡ after l.fn.out (joined l.i (λ j. lines_text (lines_at l.net (address_of j)))))
