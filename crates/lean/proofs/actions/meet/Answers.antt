-- Assumes nothing.
use Rattle.std.proofs.Common.{rules}
use Rattle.lean.proofs.ActionCode.{met_some, met_none}
use Rattle.lean.proofs.actions.meet.Goals as goal

pub returns-then-i-lt16 : goal.returns-then-i-lt16
returns-then-i-lt16 c = search (rules, met_some)

pub returns-else-i-lt16 : goal.returns-else-i-lt16
returns-else-i-lt16 c = search (rules, met_none)
