use Rattle.std.proofs.Common.{rules}
use Rattle.names.proofs.LookupLaws.{picked_site, picked_office}
use Rattle.names.proofs.lookup.listed_name.Goals as goal

pub returns-in-Some : goal.returns-in-Some
returns-in-Some c = search (rules, picked_site)

pub returns-in-None : goal.returns-in-None
returns-in-None c = search (rules, picked_office)
