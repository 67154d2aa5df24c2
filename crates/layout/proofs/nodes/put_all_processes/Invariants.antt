use Rattle.std.proofs.Common.{◌≡◌}
use Rattle.net.specs.Records.{node_at, address_of}
use Rattle.written.specs.ImageOf.{processes_bits}
use Rattle.text.specs.Joined.{joined}
use Rattle.text.specs.Writer.{after}
use Rattle.layout.proofs.nodes.put_all_processes.Given as goal

abbrev pub invariant-loop-x : goal.invariant-loop-x
invariant-loop-x l = l.out ≡ after l.fn.out (joined l.x-index (λ a. processes_bits (node_at l.net (address_of a))))
