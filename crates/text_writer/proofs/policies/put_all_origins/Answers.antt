use Rattle.std.proofs.Common.{rules, ℕ}
use Rattle.text_writer.proofs.LoopLaws.{part_next}
use Rattle.net.specs.Records.{node_at}
use Rattle.net.specs.declared.node.Node.{Node}
use Rattle.read_back.specs.NetSource.{origin_rows_of}
use Rattle.sources.specs.Printed.{node_text}
use Rattle.text_writer.proofs.ListLaws.{numbered_end}
use Rattle.text_writer.proofs.PartLaws.{nodes_numbered}
use Rattle.text_writer.proofs.policies.put_all_origins.Goals as goal

pub loop-i-preserved : goal.loop-i-preserved
unfolding node_at
loop-i-preserved c =
    part_next c.args.net.now.nodes c.loop-i.i c.args.net.now.addresses c.loop-i-test.true (λ (j : ℕ) (x : Node). node_text j 0 (origin_rows_of c.args.net.now.addresses x)) _ _ _ _ _ c.loop-i.invariant c.put_origins.ensures

pub returns : goal.returns
returns c =
    numbered_end nodes_numbered _ _ _ _ _ c.loop-i.invariant (search rules)
