-- Assumes nothing.
use Rattle.std.proofs.Common.{rules}
use Rattle.lean.proofs.ActionCode.{aim_lacks, aim_written, aim_held, aim_barred}
use Rattle.lean.proofs.actions.aim.Goals as goal

pub returns-then-h-ge-WRITTEN-clause-value : goal.returns-then-h-ge-WRITTEN-clause-value
returns-then-h-ge-WRITTEN-clause-value c = search (rules, aim_written)

pub returns-then-grants-clause-value : goal.returns-then-grants-clause-value
returns-then-grants-clause-value c = search (rules, aim_held)

pub returns-else-grants-clause-value : goal.returns-else-grants-clause-value
returns-else-grants-clause-value c = search (rules, aim_barred)

pub returns-else-defined-w-clause-value : goal.returns-else-defined-w-clause-value
returns-else-defined-w-clause-value c = search (rules, aim_lacks)
