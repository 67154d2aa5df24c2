use Rattle.std.proofs.Common.{◌≡◌}
use Rattle.net.specs.Records.{node_at, address_of}
use Rattle.written.specs.ImageOf.{tuples_bits}
use Rattle.text.specs.Joined.{joined}
use Rattle.text.specs.Writer.{after}
use Rattle.layout.proofs.nodes.put_all_tuples.Given as goal

abbrev pub invariant-loop-x : goal.invariant-loop-x
invariant-loop-x l = l.out ≡ after l.fn.out (joined l.x-index (λ a. tuples_bits (node_at l.net (address_of a))))
