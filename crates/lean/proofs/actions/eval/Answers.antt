-- Assumes nothing.
use Rattle.std.proofs.Common.{refl}
use Rattle.lean.specs.Words.{slot_at}
use Rattle.lean.specs.Actions.{target_in}
use Rattle.lean.proofs.StartLaws.{eval_refused, eval_admitted, eval_barred}
use Rattle.lean.proofs.actions.eval.Goals as goal

pub returns-in-Ok : goal.returns-in-Ok
unfolding slot_at target_in
returns-in-Ok c =
    eval_admitted _ _ _ _ _ _ _ _ c.in-Ok.ensures.value c.in-Ok.ensures.low _ c.admits.ensures c.if-admits.true _ c.start.ensures

pub returns-in-Ok-2 : goal.returns-in-Ok-2
unfolding slot_at target_in
returns-in-Ok-2 c =
    eval_barred _ _ _ _ _ _ _ _ c.in-Ok.ensures.value c.in-Ok.ensures.low _ c.admits.ensures c.if-admits.false

pub returns-in-Err : goal.returns-in-Err
unfolding slot_at target_in
returns-in-Err c = eval_refused _ _ _ _ _ _ _ _ c.in-Err.ensures.value _ refl
