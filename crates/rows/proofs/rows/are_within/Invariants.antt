use Rattle.std.proofs.Common.{◌≡◌, true}
use Rattle.net.specs.Choice.{all}
use Rattle.net.specs.Records.{row_at, node_at, address_of}
use Rattle.rows.specs.Rows.{within}
use Rattle.rows.proofs.rows.are_within.Given as goal

abbrev pub invariant-loop-i : goal.invariant-loop-i
invariant-loop-i l = all l.i (λ i. within l.net.addresses (row_at (node_at l.net (address_of i)) (address_of i))) ≡ true
