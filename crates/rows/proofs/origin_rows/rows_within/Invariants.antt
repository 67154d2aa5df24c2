use Rattle.std.proofs.Common.{◌≡◌, true}
use Rattle.net.specs.Choice.{all}
use Rattle.net.specs.Records.{row_at, address_of}
use Rattle.rows.specs.Rows.{within}
use Rattle.rows.proofs.origin_rows.rows_within.Given as goal

abbrev pub invariant-loop-j : goal.invariant-loop-j
invariant-loop-j l = all l.j (λ j. within l.n (row_at l.node (address_of j))) ≡ true
