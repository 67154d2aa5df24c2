use Rattle.std.proofs.Common.{◌-◌, length}
use Rattle.listing.specs.Comparing.{Compared}
use Rattle.listing.proofs.comparing.compare.Given as goal

abbrev pub invariant-loop-at : goal.invariant-loop-at
invariant-loop-at l = Compared l.ours l.theirs l.at

abbrev pub decreases-loop-at : goal.decreases-loop-at
decreases-loop-at l = length l.ours - l.at.ours
