use Rattle.std.proofs.Common.{◌∙◌, ap, ◌≡◌, ℕ, List, Bool, arith}
use Rattle.std.proofs.lemmas.Grind.{common_steps}
use Rattle.text.specs.Joined.{joined}
use Rattle.layout.proofs.PartLaws.{part_more}
use Rattle.net.specs.Records.{row_at, address_of}
use Rattle.written.specs.ImageOf.{row_bits}
use Rattle.text.specs.Writer.{after}
use Rattle.layout.proofs.RowLaws.{single_row, each_row}
use Rattle.layout.proofs.rows.put_node_rows.Goals as goal
use Rattle.layout.proofs.rows.put_node_rows.Goals.{then-format-eq1, else-format-eq1}

pub loop-row-preserved : goal.loop-row-preserved
unfolding row_at
loop-row-preserved c =
    part_more c.args.x.now.rows c.loop-row.row-index _ c.loop-row-test.true (row_bits c.args.n) _ _ _ _ _ c.loop-row.invariant c.put_row.ensures

abbrev parts : goal.After-loop-row → ℕ → List Bool
parts c i = joined i (λ o. row_bits c.args.n (row_at c.args.x.now (address_of o)))

pub returns : goal.returns
returns c =
    c.loop-row.invariant
    ∙ ap (after c.args.out.now)
    (elim c.if-format-eq1.branch [
      | then-format-eq1 w ↦
          let e : c.loop-row.row-index ≡ 1 = grind (arith, common_steps, w.count-is) in
          ap (parts c) e ∙ single_row c.args.format c.args.n c.args.x.now w.if-format-eq1.true
      | else-format-eq1 w ↦
          let e : c.loop-row.row-index ≡ c.args.n = grind (arith, common_steps, w.count-is) in
          ap (parts c) e ∙ each_row c.args.format c.args.n c.args.x.now w.if-format-eq1.false
    ])
