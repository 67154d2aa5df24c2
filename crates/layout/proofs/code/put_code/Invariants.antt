use Rattle.std.proofs.Common.{◌≡◌}
use Rattle.net.specs.Records.{instruction_at, place_of}
use Rattle.written.specs.ImageOf.{instruction_bits}
use Rattle.text.specs.Joined.{joined}
use Rattle.text.specs.Writer.{after}
use Rattle.layout.proofs.code.put_code.Given as goal

abbrev pub invariant-loop-c : goal.invariant-loop-c
invariant-loop-c l = l.out ≡ after l.fn.out (joined l.c-index (λ p. instruction_bits (instruction_at l.net.code (place_of p))))
