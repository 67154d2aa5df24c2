use Rattle.std.proofs.Common.{◌≡◌}
use Rattle.net.specs.Records.{process_at}
use Rattle.written.specs.ImageOf.{place_bits}
use Rattle.text.specs.Joined.{joined}
use Rattle.text.specs.Writer.{after}
use Rattle.layout.proofs.nodes.put_processes.Given as goal

abbrev pub invariant-loop-p : goal.invariant-loop-p
invariant-loop-p l = l.out ≡ after l.initial.out (joined l.p-index (λ i. place_bits (process_at l.x i).at))
