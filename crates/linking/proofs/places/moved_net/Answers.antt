use Rattle.std.proofs.Common.{refl, arith}
use Rattle.net.specs.Records.{node_at, with_node}
use Rattle.net.proofs.FoldLaws.{fold_none, fold_more, fold_end}
use Rattle.linking.specs.Placing.{moved_net}
use Rattle.linking.proofs.PlacingLaws.{address_moved}
use Rattle.linking.proofs.places.moved_net.Goals as goal

pub loop-a-init : goal.loop-a-init
loop-a-init c = fold_none _ _ _ refl

pub loop-a-preserved : goal.loop-a-preserved
unfolding node_at with_node
loop-a-preserved c = fold_more _ _ c.loop-a.a c.loop-a.net _ c.loop-a.invariant (address_moved _ c.args.starts.now c.loop-a.a c.loop-a.net c.move_node.new.node c.move_node.ensures)

pub returns : goal.returns
unfolding moved_net
returns c = fold_end _ _ c.loop-a.a 16 _ c.loop-a.invariant (omega arith) (omega arith)
