use Rattle.std.proofs.Common.{refl, ◌∙◌, arith}
use Rattle.net.specs.Records.{process_at, with_process}
use Rattle.net.proofs.FoldLaws.{fold_none, fold_more, fold_end}
use Rattle.linking.specs.Placing.{moved_node}
use Rattle.linking.proofs.PlacingLaws.{slot_moved, slot_kept}
use Rattle.linking.proofs.places.move_node.Goals as goal
use Rattle.linking.proofs.places.move_node.Goals.{then-p, else-p}

pub loop-j-init : goal.loop-j-init
loop-j-init c = fold_none _ _ _ refl

pub loop-j-preserved : goal.loop-j-preserved
unfolding process_at with_process
loop-j-preserved c = fold_more _ _ c.loop-j.j c.loop-j.node _ c.loop-j.invariant
    (elim c.if-p.branch [
      | then-p w ↦ w.node-is ∙ (rw (w.moved_to.ensures, w.place_at.ensures, w.word_at-w.ensures) (slot_moved _ c.args.starts.now c.args.a c.loop-j.j c.loop-j.node w.if-p.true))
      | else-p w ↦ w.node-is ∙ slot_kept _ c.args.starts.now c.args.a c.loop-j.j c.loop-j.node w.if-p.false
    ])

pub returns : goal.returns
unfolding moved_node
returns c = fold_end _ _ c.loop-j.j 4 _ c.loop-j.invariant (omega arith) (omega arith)
