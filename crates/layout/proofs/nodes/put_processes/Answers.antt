use Rattle.layout.proofs.PartLaws.{part_more}
use Rattle.net.specs.Records.{process_at}
use Rattle.written.specs.ImageOf.{place_bits}
use Rattle.net.specs.declared.process.Process.{Process}
use Rattle.layout.proofs.nodes.put_processes.Goals as goal

pub loop-p-preserved : goal.loop-p-preserved
unfolding process_at
loop-p-preserved c =
    part_more c.args.x.now.processes c.loop-p.p-index c.process_count-n.result c.loop-p-test.true (λ (p : Process). place_bits p.at) _ _ _ _ _ c.loop-p.invariant c.put_place.ensures
