use Rattle.std.proofs.Common.{rules, arith}
use Rattle.net.specs.Choice.{choose}
use Rattle.net.specs.Records.{pattern_at}
use Rattle.net.proofs.Laws.{branches}
use Rattle.net.proofs.FoldLaws.{fold_none, fold_more, fold_end}
use Rattle.matching.specs.Matching.{wants_of, zero_wanted}
use Rattle.matching.proofs.template.all_wants.Goals as goal
use Rattle.matching.proofs.template.all_wants.Goals.{then-i-c, else-i-c}

pub loop-i-init : goal.loop-i-init
unfolding zero_wanted
loop-i-init c = search (rules, fold_none)

pub loop-i-preserved : goal.loop-i-preserved
unfolding choose pattern_at
loop-i-preserved c =
    fold_more _ _ c.loop-i.i c.loop-i.ws _ c.loop-i.invariant
    (elim c.if-i-c.branch [ then-i-c w ↦ search (rules, branches) | else-i-c w ↦ search (rules, branches) ])

pub returns : goal.returns
unfolding wants_of
returns c = search (rules, fold_end)
