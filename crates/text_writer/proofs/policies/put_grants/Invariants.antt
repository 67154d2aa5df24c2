use Rattle.std.proofs.Common.{◌≡◌}
use Rattle.sources.specs.Printed.{grant_text}
use Rattle.net.specs.Records.{rights_at, address_of}
use Rattle.text.specs.Joined.{joined}
use Rattle.text.specs.Writer.{after}
use Rattle.text_writer.proofs.policies.put_grants.Given as goal

abbrev pub invariant-loop-l : goal.invariant-loop-l
invariant-loop-l l = (l.out ≡ after l.fn.out (joined l.l (λ j. grant_text j (rights_at l.fn.row (address_of j)))))
