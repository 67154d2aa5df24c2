-- Assumes nothing.
use Rattle.std.proofs.Common.{rules}
use Rattle.net.specs.Records.{instruction_at}
use Rattle.net.proofs.FoldLaws.{fold_none, fold_more}
use Rattle.lean_code.specs.Needs.{add_reached}
use Rattle.lean_code.proofs.NeedLaws.{needs_end}
use Rattle.lean_code.proofs.needs.needs_from.Goals as goal

pub loop-q-init : goal.loop-q-init
loop-q-init c = search (rules, fold_none)

pub loop-q-preserved : goal.loop-q-preserved
unfolding instruction_at add_reached
loop-q-preserved c = search (rules, fold_more)

pub returns : goal.returns
returns c = search (rules, needs_end)
