use Rattle.std.proofs.Common.{rules}
use Rattle.names.proofs.LookupLaws.{named_picked, named_none}
use Rattle.names.proofs.EntryLaws.{number_ok, number_err}
use Rattle.names.proofs.lookup.name_tested.Goals as goal

pub returns-in-Ok : goal.returns-in-Ok
returns-in-Ok c = search (rules, named_picked, number_ok)

pub returns-in-Err : goal.returns-in-Err
returns-in-Err c = search (rules, named_none, number_err)
