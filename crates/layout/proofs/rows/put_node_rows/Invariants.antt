use Rattle.std.proofs.Common.{◌≡◌}
use Rattle.net.specs.Records.{row_at, address_of}
use Rattle.written.specs.ImageOf.{row_bits}
use Rattle.text.specs.Joined.{joined}
use Rattle.text.specs.Writer.{after}
use Rattle.layout.proofs.rows.put_node_rows.Given as goal

abbrev pub invariant-loop-row : goal.invariant-loop-row
invariant-loop-row l = l.out ≡ after l.fn.out (joined l.row-index (λ o. row_bits l.n (row_at l.x (address_of o))))
