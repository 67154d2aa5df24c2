use Rattle.std.proofs.Common.{◌≡◌}
use Rattle.net.specs.Records.{field_at}
use Rattle.written.specs.ImageOf.{item_bits}
use Rattle.text.specs.Joined.{joined}
use Rattle.text.specs.Writer.{after}
use Rattle.layout.proofs.nodes.put_tuple.Given as goal

abbrev pub invariant-loop-field : goal.invariant-loop-field
invariant-loop-field l = l.out ≡ after l.initial.out (joined l.field-index (λ i. item_bits (field_at l.t i)))
