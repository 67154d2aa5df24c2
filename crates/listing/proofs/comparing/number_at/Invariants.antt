use Rattle.std.proofs.Common.{◌≤◌, max, length}
use Rattle.listing.specs.Comparing.{Reading}
use Rattle.listing.proofs.comparing.number_at.Given as goal

abbrev pub invariant-loop-i : goal.invariant-loop-i
invariant-loop-i l = Reading l.s l.from l.value l.i × (l.i ≤ max l.from (length l.s))
