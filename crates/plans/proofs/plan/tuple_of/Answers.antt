use Rattle.std.proofs.Common.{rules, refl}
use Rattle.net.specs.Choice.{choose}
use Rattle.net.proofs.FoldLaws.{fold_none, fold_more, fold_end}
use Rattle.net.proofs.Laws.{branches}
use Rattle.matching.specs.Matching.{want_at}
use Rattle.plans.specs.Additions.{tuple_of}
use Rattle.plans.proofs.plan.tuple_of.Goals as goal
use Rattle.plans.proofs.plan.tuple_of.Goals.{then-i-e, else-i-e}

pub loop-i-init : goal.loop-i-init
loop-i-init c = search (rules, fold_none)

pub loop-i-preserved : goal.loop-i-preserved
unfolding choose want_at
loop-i-preserved c =
    fold_more _ _ c.loop-i.i c.loop-i.t _ c.loop-i.invariant
    (elim c.if-i-e.branch [ then-i-e w ↦ search (rules, branches) | else-i-e w ↦ search (rules, branches) ])

pub returns : goal.returns
unfolding tuple_of
returns c = search (rules, fold_end)
