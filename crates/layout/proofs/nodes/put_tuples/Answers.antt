use Rattle.layout.proofs.PartLaws.{part_more}
use Rattle.net.specs.Records.{tuple_at}
use Rattle.written.specs.ImageOf.{tuple_bits}
use Rattle.layout.proofs.CountLaws.{first_fields}
use Rattle.layout.proofs.nodes.put_tuples.Goals as goal

pub loop-t-preserved : goal.loop-t-preserved
unfolding tuple_at
loop-t-preserved c =
    part_more c.args.x.now.tuples c.loop-t.t-index c.args.x.now.stored c.loop-t-test.true (tuple_bits) _ _ _ _ _ c.loop-t.invariant c.put_tuple.ensures

pub put_tuple-requires : goal.put_tuple-requires
put_tuple-requires c = first_fields c.args.x.now c.loop-t.t-index _ c.requires c.loop-t-test.true
