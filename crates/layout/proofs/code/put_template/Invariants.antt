use Rattle.std.proofs.Common.{◌≡◌}
use Rattle.net.specs.Records.{pattern_at}
use Rattle.written.specs.ImageOf.{pattern_bits}
use Rattle.text.specs.Joined.{joined}
use Rattle.text.specs.Writer.{after}
use Rattle.layout.proofs.code.put_template.Given as goal

abbrev pub invariant-loop-field : goal.invariant-loop-field
invariant-loop-field l = l.out ≡ after l.initial.out (joined l.field-index (λ i. pattern_bits (pattern_at l.c i)))
