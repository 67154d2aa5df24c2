-- Assumes nothing.
use Rattle.std.proofs.Common.{rules}
use Rattle.net.proofs.FoldLaws.{fold_none, fold_end}
use Rattle.lean_code.specs.Needs.{add_members}
use Rattle.lean_code.proofs.NeedLaws.{member_more}
use Rattle.lean_code.proofs.needs.add_members.Goals as goal

pub loop-l-init : goal.loop-l-init
loop-l-init c = search (rules, fold_none)

pub loop-l-preserved : goal.loop-l-preserved
loop-l-preserved c = search (rules, member_more)

pub returns : goal.returns
unfolding add_members
returns c = search (rules, fold_end)
