use Rattle.std.proofs.Common.{rules}
use Rattle.plans.proofs.PlanLaws.{by}
use Rattle.listing.specs.Listing.{checked_number}
use Rattle.listing.proofs.checking.number_of.Goals as goal

pub returns-in-Ok : goal.returns-in-Ok
unfolding checked_number
returns-in-Ok c = search (rules, by checked_number)

pub returns-in-Err-Differs : goal.returns-in-Err-Differs
unfolding checked_number
returns-in-Err-Differs c = search (rules, by checked_number)

pub returns-in-Err-Wanting : goal.returns-in-Err-Wanting
unfolding checked_number
returns-in-Err-Wanting c = search (rules, by checked_number)

pub returns-in-Err-LeftOver : goal.returns-in-Err-LeftOver
unfolding checked_number
returns-in-Err-LeftOver c = search (rules, by checked_number)
