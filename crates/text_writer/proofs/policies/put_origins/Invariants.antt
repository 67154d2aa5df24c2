use Rattle.std.proofs.Common.{◌≡◌}
use Rattle.sources.specs.Printed.{origin_row_text}
use Rattle.net.specs.Records.{row_at, address_of}
use Rattle.text.specs.Joined.{joined}
use Rattle.text.specs.Writer.{after}
use Rattle.text_writer.proofs.policies.put_origins.Given as goal

abbrev pub invariant-loop-j : goal.invariant-loop-j
invariant-loop-j l = (l.out ≡ after l.fn.out (joined l.j (λ k. origin_row_text l.i k (row_at l.x (address_of k)))))
