use Rattle.std.proofs.Common.{◌-◌, length}
use Rattle.names.specs.Names.{found_among}
use Rattle.names.proofs.EntryLaws.{Left}
use Rattle.names.proofs.entries.find.Given as goal

abbrev pub invariant-loop-at : goal.invariant-loop-at
invariant-loop-at l = Left l.list (found_among l.list l.address) l.at

abbrev pub decreases-loop-at : goal.decreases-loop-at
decreases-loop-at l = length l.list - l.at
