use Rattle.layout.proofs.PartLaws.{part_more}
use Rattle.net.specs.Records.{rights_at}
use Rattle.written.specs.ImageOf.{rights_bits}
use Rattle.layout.proofs.rows.put_row.Goals as goal

pub loop-rights-preserved : goal.loop-rights-preserved
unfolding rights_at
loop-rights-preserved c =
    part_more c.args.row.now.rights c.loop-rights.rights-index c.args.n c.loop-rights-test.true (rights_bits) _ _ _ _ _ c.loop-rights.invariant c.put_rights.ensures
