-- Assumes nothing.
use Rattle.std.proofs.Common.{rules}
use Rattle.lean.proofs.ActionCode.{remove_one, remove_none}
use Rattle.lean.proofs.actions.remove.Goals as goal

pub returns-then-count-gt0 : goal.returns-then-count-gt0
returns-then-count-gt0 c = search (rules, remove_one)

pub returns-else-count-gt0 : goal.returns-else-count-gt0
returns-else-count-gt0 c = search (rules, remove_none)
