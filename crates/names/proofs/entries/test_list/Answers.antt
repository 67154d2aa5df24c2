use Rattle.std.proofs.Common.{rules}
use Rattle.names.specs.Faults.{number_of}
use Rattle.names.proofs.EntryLaws.{left_all, fault_again, fault_here, fault_none}
use Rattle.names.proofs.entries.test_list.Goals as goal

pub loop-at-init : goal.loop-at-init
loop-at-init c = search (rules, left_all)

pub returns-in_err-test_entry : goal.returns-in_err-test_entry
returns-in_err-test_entry c = search (rules, fault_here)

pub loop-at-preserved : goal.loop-at-preserved
unfolding number_of
loop-at-preserved c = search (rules, fault_again)

pub returns : goal.returns
unfolding number_of
returns c = search (rules, fault_none)
