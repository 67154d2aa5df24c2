-- Assumes nothing.
use Rattle.std.proofs.Common.{rules}
use Rattle.lean.proofs.ActionCode.{below_none, below_more, below_end}
use Rattle.lean.proofs.actions.put_at_all.Goals as goal

pub loop-l-init : goal.loop-l-init
loop-l-init c = search (rules, below_none)

pub loop-l-preserved : goal.loop-l-preserved
loop-l-preserved c = search (rules, below_more)

pub returns : goal.returns
returns c = search (rules, below_end)
