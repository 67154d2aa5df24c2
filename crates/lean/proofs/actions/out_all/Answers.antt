-- Assumes nothing.
use Rattle.std.proofs.Common.{rules}
use Rattle.lean.proofs.ActionCode.{all_lacks, all_defined}
use Rattle.lean.proofs.actions.out_all.Goals as goal

pub returns-then-defined : goal.returns-then-defined
returns-then-defined c = search (rules, all_defined)

pub returns-else-defined : goal.returns-else-defined
returns-else-defined c = search (rules, all_lacks)
