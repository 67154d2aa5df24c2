-- A plan put back, or an out to a set made, is the step. Assumes nothing.
use Rattle.step.proofs.Lengths.{machine_shaped}
use Rattle.step.proofs.SharingLaws.{share_is}
use Rattle.step.proofs.TurnLaws.{turn_is}
use Rattle.step.proofs.machine.Machine.step.Goals as goal

pub returns-then-turn-eq0 : goal.returns-then-turn-eq0
returns-then-turn-eq0 c =
    turn_is c.args.self.net c.args.b _ _ _ (machine_shaped _ _ c.well_formed.0) c.turn_at-turn.ensures.0 c.if-turn-eq0.true
    c.plan_at-plan.ensures c.put_back.ensures

pub returns-else-turn-eq0 : goal.returns-else-turn-eq0
returns-else-turn-eq0 c =
    share_is c.args.self.net c.args.b _ _ (machine_shaped _ _ c.well_formed.0) c.turn_at-turn.ensures.0 c.if-turn-eq0.false
    c.share.ensures
