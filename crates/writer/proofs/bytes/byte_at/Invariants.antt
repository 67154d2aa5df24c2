use Rattle.std.proofs.Common.{◌≡◌, ◌<◌}
use Rattle.written.specs.ImageOf.{number_in}
use Rattle.writer.proofs.bytes.byte_at.Given as goal

abbrev pub invariant-loop-w : goal.invariant-loop-w
invariant-loop-w l = (l.n ≡ number_in l.bits l.at l.w) × (l.n < 256)
