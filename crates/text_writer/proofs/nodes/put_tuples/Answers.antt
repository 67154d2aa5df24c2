use Rattle.std.proofs.Common.{rules, ℕ, [], ◌∷◌}
use Rattle.text_writer.proofs.LoopLaws.{part_next, lines_end}
use Rattle.layout.proofs.CountLaws.{first_fields}
use Rattle.linking.specs.Source.{tuple}
use Rattle.net.specs.Records.{tuple_at, marked, zero_tuple}
use Rattle.net.specs.declared.tuple.Tuple.{Tuple}
use Rattle.read_back.specs.NetSource.{tuple_lines, listed}
use Rattle.sources.specs.Printed.{lines_text, line_text, tuple_text}
use Rattle.text_writer.proofs.nodes.put_tuples.Goals as goal

pub put_tuple_line-requires : goal.put_tuple_line-requires
put_tuple_line-requires c =
    first_fields c.args.x.now c.loop-t.t-index _ c.requires c.loop-t-test.true

pub loop-t-preserved : goal.loop-t-preserved
unfolding tuple_at marked lines_text line_text tuple_text
loop-t-preserved c =
    part_next c.args.x.now.tuples c.loop-t.t-index c.args.x.now.stored c.loop-t-test.true (λ (j : ℕ) (x : Tuple). lines_text (tuple c.args.a (marked zero_tuple.mark x) ∷ [])) _ _ _ _ _ c.loop-t.invariant c.put_tuple_line.ensures

pub returns : goal.returns
unfolding tuple_lines listed
returns c =
    lines_end _ _ _ _ _ c.loop-t.invariant (search rules)
