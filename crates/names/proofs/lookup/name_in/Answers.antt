use Rattle.std.proofs.Common.{rules}
use Rattle.names.proofs.LookupLaws.{text_found, text_missing}
use Rattle.names.proofs.lookup.name_in.Goals as goal

pub returns-in-Some : goal.returns-in-Some
returns-in-Some c = search (rules, text_found)

pub returns-in-None : goal.returns-in-None
returns-in-None c = search (rules, text_missing)
