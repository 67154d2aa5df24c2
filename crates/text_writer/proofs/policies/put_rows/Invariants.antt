use Rattle.std.proofs.Common.{◌≡◌}
use Rattle.sources.specs.Printed.{row_text}
use Rattle.net.specs.Records.{row_at, node_at, address_of}
use Rattle.text.specs.Joined.{joined}
use Rattle.text.specs.Writer.{after}
use Rattle.text_writer.proofs.policies.put_rows.Given as goal

abbrev pub invariant-loop-i : goal.invariant-loop-i
invariant-loop-i l = (l.out ≡ after l.fn.out (joined l.i (λ j. row_text j (row_at (node_at l.net (address_of j)) (address_of 0)))))
