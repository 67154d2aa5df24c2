use Rattle.std.proofs.Common.{◌≡◌}
use Rattle.net.specs.Records.{node_at, address_of}
use Rattle.written.specs.ImageOf.{node_rows_bits}
use Rattle.text.specs.Joined.{joined}
use Rattle.text.specs.Writer.{after}
use Rattle.layout.proofs.rows.put_rows.Given as goal

abbrev pub invariant-loop-x : goal.invariant-loop-x
invariant-loop-x l = l.out ≡ after l.fn.out (joined l.x-index (λ a. node_rows_bits l.net.format l.net.addresses (node_at l.net (address_of a))))
