use Rattle.std.proofs.Common.{rules}
use Rattle.text_writer.proofs.LoopLaws.{part_next}
use Rattle.net.specs.Records.{row_at}
use Rattle.read_back.specs.NetSource.{origin_rows_of}
use Rattle.sources.specs.Printed.{origin_row_text}
use Rattle.text_writer.proofs.ListLaws.{numbered_end}
use Rattle.text_writer.proofs.PartLaws.{origins_numbered}
use Rattle.text_writer.proofs.policies.put_origins.Goals as goal

pub loop-j-preserved : goal.loop-j-preserved
unfolding row_at
loop-j-preserved c =
    part_next c.args.x.now.rows c.loop-j.j c.args.n c.loop-j-test.true (origin_row_text c.args.i) _ _ _ _ _ c.loop-j.invariant c.put_origin_row.ensures

pub returns : goal.returns
unfolding origin_rows_of
returns c =
    numbered_end (origins_numbered c.args.i) _ _ _ _ _ c.loop-j.invariant (search rules)
