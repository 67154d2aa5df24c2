use Rattle.linking.proofs.PlacingLaws.{linked_none, linked_more}
use Rattle.linking.proofs.places.place_code.Goals as goal

pub loop-i-init : goal.loop-i-init
loop-i-init c = linked_none _ _ _

pub loop-i-preserved : goal.loop-i-preserved
loop-i-preserved c = linked_more _ c.args.table.now c.loop-i.i _ c.loop-i.net c.linked_at.result c.loop-i.invariant c.linked_at.ensures
