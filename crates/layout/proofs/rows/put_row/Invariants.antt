use Rattle.std.proofs.Common.{◌≡◌}
use Rattle.net.specs.Records.{rights_at, address_of}
use Rattle.written.specs.ImageOf.{rights_bits}
use Rattle.text.specs.Joined.{joined}
use Rattle.text.specs.Writer.{after}
use Rattle.layout.proofs.rows.put_row.Given as goal

abbrev pub invariant-loop-rights : goal.invariant-loop-rights
invariant-loop-rights l = l.out ≡ after l.initial.out (joined l.rights-index (λ i. rights_bits (rights_at l.row (address_of i))))
