use Rattle.std.proofs.Common.{rules, ℕ, ◌++◌}
use Rattle.text_writer.proofs.LoopLaws.{part_next, lines_end, both_lines}
use Rattle.layout.proofs.CountLaws.{first_node}
use Rattle.net.specs.Records.{node_at, address_of}
use Rattle.net.specs.declared.node.Node.{Node}
use Rattle.read_back.specs.NetSource.{process_lines, tuple_lines, lines_at}
use Rattle.sources.specs.Printed.{lines_text}
use Rattle.text_writer.proofs.nodes.put_nodes.Goals as goal

pub put_tuples-requires : goal.put_tuples-requires
put_tuples-requires c =
    first_node c.args.net.now c.loop-i.i _ c.requires c.loop-i-test.true

pub loop-i-preserved : goal.loop-i-preserved
unfolding lines_at node_at
loop-i-preserved c =
    part_next c.args.net.now.nodes c.loop-i.i c.args.net.now.addresses c.loop-i-test.true (λ (j : ℕ) (x : Node). lines_text (process_lines (address_of j) x ++ tuple_lines (address_of j) x)) _ _ _ _ _ c.loop-i.invariant (both_lines _ _ _ _ _ c.put_processes.ensures c.put_tuples.ensures)

pub returns : goal.returns
returns c =
    lines_end _ _ _ _ _ c.loop-i.invariant (search rules)
