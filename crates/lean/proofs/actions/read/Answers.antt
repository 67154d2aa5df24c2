-- Assumes nothing.
use Rattle.std.proofs.Common.{rules, refl}
use Rattle.lean.proofs.ActionCode.{read_refused, read_some, read_none}
use Rattle.lean.proofs.actions.read.Goals as goal

pub returns-in-Err : goal.returns-in-Err
returns-in-Err c = read_refused _ _ _ _ _ _ _ _ _ c.in-Err.ensures.value _ refl

pub returns-then-i-lt16 : goal.returns-then-i-lt16
returns-then-i-lt16 c = search (rules, c.in-Ok.ensures.value, c.in-Ok.ensures.low, read_some)

pub returns-else-i-lt16 : goal.returns-else-i-lt16
returns-else-i-lt16 c = search (rules, c.in-Ok.ensures.value, c.in-Ok.ensures.low, read_none)
