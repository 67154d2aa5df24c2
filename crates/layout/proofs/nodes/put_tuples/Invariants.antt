use Rattle.std.proofs.Common.{◌≡◌}
use Rattle.net.specs.Records.{tuple_at}
use Rattle.written.specs.ImageOf.{tuple_bits}
use Rattle.text.specs.Joined.{joined}
use Rattle.text.specs.Writer.{after}
use Rattle.layout.proofs.nodes.put_tuples.Given as goal

abbrev pub invariant-loop-t : goal.invariant-loop-t
invariant-loop-t l = l.out ≡ after l.initial.out (joined l.t-index (λ i. tuple_bits (tuple_at l.x i)))
