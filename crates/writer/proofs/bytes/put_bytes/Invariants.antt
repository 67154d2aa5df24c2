use Rattle.std.proofs.Common.{◌≡◌, [], ◌∷◌, ◌*◌}
use Rattle.text.specs.Joined.{joined}
use Rattle.text.specs.Writer.{after}
use Rattle.written.specs.ImageOf.{number_in}
use Rattle.writer.proofs.bytes.put_bytes.Given as goal

abbrev pub invariant-loop-i : goal.invariant-loop-i
invariant-loop-i l = l.out ≡ after l.fn.out (joined l.i (λ i. number_in l.bits (8 * i) 8 ∷ []))
