use Rattle.std.proofs.Common.{rules}
use Rattle.names.specs.Faults.{fault_number}
use Rattle.names.proofs.entries.NamesFault.number.Goals as goal

pub returns-in-NoLength : goal.returns-in-NoLength
unfolding fault_number
returns-in-NoLength c = search rules

pub returns-in-CutShort : goal.returns-in-CutShort
unfolding fault_number
returns-in-CutShort c = search rules

pub returns-in-OutOfRange : goal.returns-in-OutOfRange
unfolding fault_number
returns-in-OutOfRange c = search rules
