-- Assumes nothing.
use Rattle.std.proofs.Common.{rules}
use Rattle.lean.proofs.ActionCode.{out_done, out_full}
use Rattle.lean.proofs.actions.out_to.Goals as goal

pub returns-then-put : goal.returns-then-put
returns-then-put c = search (rules, out_done)

pub returns-else-put : goal.returns-else-put
returns-else-put c = search (rules, out_full)
