-- Assumes nothing.
use Rattle.std.proofs.Common.{refl}
use Rattle.lean.specs.Calls.{room_for}
use Rattle.lean.proofs.EngineLaws.{judged_unsound, net_given, answers_given}
use Rattle.lean.proofs.EngineLaws.{net_refused, answers_refused, net_lacking, answers_lacking}
use Rattle.lean.proofs.engine.Engine.make.Goals as goal

pub returns-then-sound-clause-room_value : goal.returns-then-sound-clause-room_value
unfolding room_for
returns-then-sound-clause-room_value c = refl

pub returns-then-sound-clause-net_value : goal.returns-then-sound-clause-net_value
returns-then-sound-clause-net_value c = net_given _ _ _ c.if-room.true _ c.ran-self.ensures.value

pub returns-then-sound-clause-answers_after : goal.returns-then-sound-clause-answers_after
returns-then-sound-clause-answers_after c =
    answers_given _ _ _ c.if-room.true _ c.ran-self.ensures.answers_after

pub returns-else-sound-clause-room_value : goal.returns-else-sound-clause-room_value
unfolding room_for
returns-else-sound-clause-room_value c = refl

pub returns-else-sound-clause-net_value : goal.returns-else-sound-clause-net_value
returns-else-sound-clause-net_value c =
    net_refused _ _ _ c.if-room.true (judged_unsound _ _ c.sound.ensures c.if-sound.false)

pub returns-else-sound-clause-answers_after : goal.returns-else-sound-clause-answers_after
returns-else-sound-clause-answers_after c =
    answers_refused _ _ _ c.if-room.true (judged_unsound _ _ c.sound.ensures c.if-sound.false) _
    c.refuse_each.ensures

pub returns-else-room-clause-room_value : goal.returns-else-room-clause-room_value
unfolding room_for
returns-else-room-clause-room_value c = refl

pub returns-else-room-clause-net_value : goal.returns-else-room-clause-net_value
returns-else-room-clause-net_value c = net_lacking _ _ _ c.if-room.false

pub returns-else-room-clause-answers_after : goal.returns-else-room-clause-answers_after
returns-else-room-clause-answers_after c = answers_lacking _ _ _ c.if-room.false
