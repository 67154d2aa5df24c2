-- Assumes nothing.
use Rattle.std.proofs.Common.{rules}
use Rattle.net.proofs.Laws.{branches}
use Rattle.lean.specs.Actions.{open_of}
use Rattle.lean.proofs.actions.open.Goals as goal

pub returns-then-format-eq1 : goal.returns-then-format-eq1
unfolding open_of
returns-then-format-eq1 c = search (rules, branches)

pub returns-else-format-eq1 : goal.returns-else-format-eq1
unfolding open_of
returns-else-format-eq1 c = search (rules, branches)
