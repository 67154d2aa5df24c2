use Rattle.std.proofs.Common.{◌≡◌}
use Rattle.sources.specs.Printed.{node_text}
use Rattle.net.specs.Records.{node_at, address_of}
use Rattle.read_back.specs.NetSource.{origin_rows_of}
use Rattle.text.specs.Joined.{joined}
use Rattle.text.specs.Writer.{after}
use Rattle.text_writer.proofs.policies.put_all_origins.Given as goal

abbrev pub invariant-loop-i : goal.invariant-loop-i
invariant-loop-i l = (l.out ≡ after l.fn.out (joined l.i (λ j. node_text j 0 (origin_rows_of l.net.addresses (node_at l.net (address_of j))))))
