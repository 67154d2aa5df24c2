use Rattle.std.proofs.Common.{rules}
use Rattle.names.specs.Faults.{fault_number, number_of}
use Rattle.names.proofs.EntryLaws.{in_letters, not_letters}
use Rattle.names.proofs.entries.test_letters.Goals as goal

pub returns-then-all_letters : goal.returns-then-all_letters
unfolding number_of
returns-then-all_letters c = search (rules, in_letters)

pub returns-else-all_letters : goal.returns-else-all_letters
unfolding number_of fault_number
returns-else-all_letters c = search (rules, not_letters)
