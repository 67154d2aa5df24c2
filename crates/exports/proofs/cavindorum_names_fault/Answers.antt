use Rattle.std.proofs.Common.{rules}
use Rattle.names.specs.Faults.{number_of}
use Rattle.exports.proofs.cavindorum_names_fault.Goals as goal

pub returns-in-Ok : goal.returns-in-Ok
unfolding number_of
returns-in-Ok c = search rules

pub returns-in-Err : goal.returns-in-Err
unfolding number_of
returns-in-Err c = search rules
