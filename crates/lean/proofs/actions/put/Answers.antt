-- Assumes nothing.
use Rattle.std.proofs.Common.{rules}
use Rattle.net.proofs.Laws.{branches}
use Rattle.lean.specs.Actions.{put_of}
use Rattle.lean.proofs.actions.put.Goals as goal

pub returns-then-at-lt16 : goal.returns-then-at-lt16
unfolding put_of
returns-then-at-lt16 c = search (rules, branches)

pub returns-else-at-lt16 : goal.returns-else-at-lt16
unfolding put_of
returns-else-at-lt16 c = search (rules, branches)
