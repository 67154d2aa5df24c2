use Rattle.layout.proofs.PartLaws.{part_more}
use Rattle.net.specs.Records.{node_at}
use Rattle.written.specs.ImageOf.{tuples_bits}
use Rattle.layout.proofs.CountLaws.{first_node}
use Rattle.layout.proofs.nodes.put_all_tuples.Goals as goal

pub loop-x-preserved : goal.loop-x-preserved
unfolding node_at
loop-x-preserved c =
    part_more c.args.net.now.nodes c.loop-x.x-index c.args.net.now.addresses c.loop-x-test.true (tuples_bits) _ _ _ _ _ c.loop-x.invariant c.put_tuples.ensures

pub put_tuples-requires : goal.put_tuples-requires
put_tuples-requires c = first_node c.args.net.now c.loop-x.x-index _ c.requires c.loop-x-test.true
