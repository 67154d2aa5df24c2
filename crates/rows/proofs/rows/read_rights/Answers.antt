use Rattle.std.proofs.Common.{rules}
use Rattle.lexemes.proofs.Reading.{reads}
use Rattle.rows.specs.Rows.{rights}
use Rattle.rows.proofs.rows.read_rights.Goals as goal

pub returns-in_err-optional-4 : goal.returns-in_err-optional-4
unfolding rights
returns-in_err-optional-4 c = search (rules, reads) depth 12

pub returns-in_err-require : goal.returns-in_err-require
unfolding rights
returns-in_err-require c = search (rules, reads) depth 14

pub returns : goal.returns
unfolding rights
returns c = search (rules, reads) depth 14
