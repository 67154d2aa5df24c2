use Rattle.std.proofs.Common.{rules}
use Rattle.plans.proofs.PlanLaws.{by}
use Rattle.listing.specs.Listing.{fault_line}
use Rattle.listing.proofs.checking.line_of.Goals as goal

pub returns-in-Ok : goal.returns-in-Ok
unfolding fault_line
returns-in-Ok c = search (rules, by fault_line)

pub returns-in-Err-Differs : goal.returns-in-Err-Differs
unfolding fault_line
returns-in-Err-Differs c = search (rules, by fault_line)

pub returns-in-Err-Differs-2 : goal.returns-in-Err-Differs-2
unfolding fault_line
returns-in-Err-Differs-2 c = search (rules, by fault_line)

pub returns-in-Err-Differs-3 : goal.returns-in-Err-Differs-3
unfolding fault_line
returns-in-Err-Differs-3 c = search (rules, by fault_line)
