use Rattle.std.proofs.Common.{rules}
use Rattle.net.proofs.Laws.{if_eq, if_ne}
use Rattle.names.specs.Faults.{fault_number, number_of}
use Rattle.names.specs.Names.{length_fault, size_at}
use Rattle.names.proofs.entries.test_length.Goals as goal

pub returns-then-list-at-eq0 : goal.returns-then-list-at-eq0
unfolding number_of fault_number length_fault size_at
returns-then-list-at-eq0 c = search (rules, if_eq)

pub returns-else-list-at-eq0 : goal.returns-else-list-at-eq0
unfolding number_of fault_number length_fault size_at
returns-else-list-at-eq0 c = search (rules, if_ne)
