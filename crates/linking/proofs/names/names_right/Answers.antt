use Rattle.std.proofs.Common.{refl, sym, ◌∙◌, not, arith}
use Rattle.net.specs.Choice.{all}
use Rattle.linking.specs.NameTable.{names_right_in}
use Rattle.linking.proofs.NameTableLaws.{both_wrong, names_wrong, names_more, names_all}
use Rattle.linking.proofs.names.names_right.Goals as goal

pub loop-k-init : goal.loop-k-init
unfolding all
loop-k-init c = refl

pub returns-then-not-name_right : goal.returns-then-not-name_right
unfolding names_right_in
returns-then-not-name_right c =
    sym (both_wrong (not c.args.twice) _ (names_wrong _ c.loop-k.k 512 (omega arith) (sym c.name_right.ensures ∙ c.if-not-name_right.true)))

pub loop-k-preserved : goal.loop-k-preserved
loop-k-preserved c = names_more _ c.loop-k.k c.loop-k.invariant (sym c.name_right.ensures ∙ c.if-not-name_right.false)

pub returns : goal.returns
unfolding names_right_in
returns c = names_all _ c.loop-k.k c.args.twice (omega arith) c.loop-k.invariant
