use Rattle.layout.proofs.PartLaws.{part_more}
use Rattle.net.specs.Records.{node_at}
use Rattle.written.specs.ImageOf.{node_rows_bits}
use Rattle.layout.proofs.rows.put_rows.Goals as goal

pub loop-x-preserved : goal.loop-x-preserved
unfolding node_at
loop-x-preserved c =
    part_more c.args.net.now.nodes c.loop-x.x-index c.args.net.now.addresses c.loop-x-test.true (node_rows_bits c.args.net.now.format c.args.net.now.addresses) _ _ _ _ _ c.loop-x.invariant c.put_node_rows.ensures
