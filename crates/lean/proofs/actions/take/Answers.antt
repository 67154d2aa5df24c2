-- Assumes nothing.
use Rattle.std.proofs.Common.{rules, refl}
use Rattle.lean.proofs.ActionCode.{take_refused, take_some, take_none}
use Rattle.lean.proofs.actions.take.Goals as goal

pub returns-in-Err : goal.returns-in-Err
returns-in-Err c = take_refused _ _ _ _ _ _ _ _ _ c.in-Err.ensures.value _ refl

pub returns-then-i-lt16 : goal.returns-then-i-lt16
returns-then-i-lt16 c = search (rules, c.in-Ok.ensures.value, c.in-Ok.ensures.low, take_some)

pub returns-else-i-lt16 : goal.returns-else-i-lt16
returns-else-i-lt16 c = search (rules, c.in-Ok.ensures.value, c.in-Ok.ensures.low, take_none)
