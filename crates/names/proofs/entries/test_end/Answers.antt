use Rattle.std.proofs.Common.{rules}
use Rattle.names.specs.Faults.{fault_number, number_of}
use Rattle.names.proofs.EntryLaws.{cut_there, not_cut}
use Rattle.names.proofs.entries.test_end.Goals as goal

pub returns-then-list-end_of : goal.returns-then-list-end_of
unfolding number_of fault_number
returns-then-list-end_of c = search (rules, cut_there)

pub returns-else-list-end_of : goal.returns-else-list-end_of
unfolding number_of
returns-else-list-end_of c = search (rules, not_cut)
