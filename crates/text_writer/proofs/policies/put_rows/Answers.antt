use Rattle.std.proofs.Common.{rules, ℕ}
use Rattle.text_writer.proofs.LoopLaws.{part_next}
use Rattle.net.specs.Records.{node_at, row_at, address_of}
use Rattle.net.specs.declared.node.Node.{Node}
use Rattle.sources.specs.Printed.{row_text}
use Rattle.text_writer.proofs.ListLaws.{numbered_end}
use Rattle.text_writer.proofs.PartLaws.{rows_numbered}
use Rattle.text_writer.proofs.policies.put_rows.Goals as goal

pub loop-i-preserved : goal.loop-i-preserved
unfolding node_at row_at
loop-i-preserved c =
    part_next c.args.net.now.nodes c.loop-i.i c.args.net.now.addresses c.loop-i-test.true (λ (j : ℕ) (x : Node). row_text j (row_at x (address_of 0))) _ _ _ _ _ c.loop-i.invariant c.put_row.ensures

pub returns : goal.returns
returns c =
    numbered_end rows_numbered _ _ _ _ _ c.loop-i.invariant (search rules)
