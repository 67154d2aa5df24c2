use Rattle.std.proofs.Common.{rules, arith}
use Rattle.net.specs.Choice.{choose}
use Rattle.net.specs.Records.{field_at}
use Rattle.net.proofs.Laws.{branches}
use Rattle.net.proofs.FoldLaws.{fold_none, fold_more, fold_end}
use Rattle.matching.specs.Matching.{bound_of, want_at}
use Rattle.matching.proofs.template.bound.Goals as goal
use Rattle.matching.proofs.template.bound.Goals.{then-i-e, else-i-e}

pub loop-i-init : goal.loop-i-init
loop-i-init c = search (rules, fold_none)

pub loop-i-preserved : goal.loop-i-preserved
unfolding choose field_at want_at
loop-i-preserved c =
    fold_more _ _ c.loop-i.i c.loop-i.q _ c.loop-i.invariant
    (elim c.if-i-e.branch [ then-i-e w ↦ search (rules, branches) | else-i-e w ↦ search (rules, branches) ])

pub returns : goal.returns
unfolding bound_of
returns c = search (rules, fold_end)
