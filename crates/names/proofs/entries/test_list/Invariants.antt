use Rattle.std.proofs.Common.{◌-◌, length}
use Rattle.names.specs.Names.{fault_among}
use Rattle.names.proofs.EntryLaws.{Left}
use Rattle.names.proofs.entries.test_list.Given as goal

abbrev pub invariant-loop-at : goal.invariant-loop-at
invariant-loop-at l = Left l.list (fault_among l.list) l.at

abbrev pub decreases-loop-at : goal.decreases-loop-at
decreases-loop-at l = length l.list - l.at
