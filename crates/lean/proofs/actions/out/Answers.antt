-- Assumes nothing.
use Rattle.std.proofs.Common.{refl}
use Rattle.lean.proofs.ActionCode.{out_refused, out_reached}
use Rattle.lean.proofs.actions.out.Goals as goal

pub returns-in-Ok : goal.returns-in-Ok
returns-in-Ok c = out_reached _ _ _ _ _ _ _ _ _ c.in-Ok.ensures.value _ c.in-Ok.ensures.low c.out_to.ensures

pub returns-in-Err : goal.returns-in-Err
returns-in-Err c = out_refused _ _ _ _ _ _ _ _ _ c.in-Err.ensures.value _ refl
