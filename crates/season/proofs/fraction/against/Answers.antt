use Rattle.std.proofs.Common.{rules}
use Rattle.season.proofs.BestLaws.{against_nobody, against_leader}
use Rattle.season.proofs.fraction.against.Goals as goal

pub returns-in-None : goal.returns-in-None
returns-in-None c = search (rules, against_nobody)

pub returns-in-Some : goal.returns-in-Some
returns-in-Some c = search (rules, against_leader)
