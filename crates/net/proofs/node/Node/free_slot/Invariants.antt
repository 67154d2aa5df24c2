-- What is left to look at gives what the whole gives.
use Rattle.std.proofs.Common.{not, Some, None}
use Rattle.net.specs.Records.{process_at}
use Rattle.net.proofs.FirstLaws.{Left}
use Rattle.net.proofs.node.Node.free_slot.Given as goal

abbrev pub invariant-loop-j : goal.invariant-loop-j
invariant-loop-j l = Left 4 (λ i. not (process_at l.fn.self i).busy) Some None l.j
