-- Assumes nothing.
use Rattle.std.proofs.Common.{rules}
use Rattle.net.proofs.AllLaws.{all_begins}
use Rattle.lean.proofs.ActionCode.{room_more, room_lacks, room_whole}
use Rattle.lean.proofs.actions.room_at_all.Goals as goal

pub loop-l-init : goal.loop-l-init
loop-l-init c = search (rules, all_begins)

pub returns-then-not-fits : goal.returns-then-not-fits
returns-then-not-fits c = search (rules, room_lacks)

pub loop-l-preserved : goal.loop-l-preserved
loop-l-preserved c = room_more _ _ _ c.loop-l.invariant c.if-not-fits.false

pub returns : goal.returns
returns c = search (rules, room_whole)
