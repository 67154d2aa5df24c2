use Rattle.std.proofs.Common.{rules, arith, sym, ◌∙◌}
use Rattle.net.specs.Groups.{all_members}
use Rattle.net.proofs.AllLaws.{all_none, all_still, all_end}
use Rattle.net.proofs.Laws.{all_fails}
use Rattle.step.specs.Sharing.{room_in, node_in}
use Rattle.step.proofs.sharing.room_at_all.Goals as goal

pub loop-l-init : goal.loop-l-init
loop-l-init c = search (rules, all_none)

pub returns-then-not-room_if : goal.returns-then-not-room_if
unfolding room_in all_members node_in
returns-then-not-room_if c =
    all_fails 16 _ c.loop-l.l c.loop-l-test.true (sym c.room_if.ensures ∙ c.if-not-room_if.true)

pub loop-l-preserved : goal.loop-l-preserved
unfolding node_in
loop-l-preserved c = all_still c.loop-l.l _ c.loop-l.invariant (sym c.if-not-room_if.false ∙ c.room_if.ensures)

pub returns : goal.returns
unfolding room_in all_members
returns c = all_end c.loop-l.l 16 _ _ c.loop-l.invariant (omega arith) c.loop-l-test.false
