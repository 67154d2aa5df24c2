use Rattle.layout.proofs.PartLaws.{part_more}
use Rattle.net.specs.Records.{field_at}
use Rattle.written.specs.ImageOf.{item_bits}
use Rattle.net.specs.declared.tuple.Field.{Field}
use Rattle.layout.proofs.nodes.put_tuple.Goals as goal

pub loop-field-preserved : goal.loop-field-preserved
unfolding field_at
loop-field-preserved c =
    part_more c.args.t.now.fields c.loop-field.field-index c.args.t.now.count c.loop-field-test.true (λ (f : Field). item_bits f.item) _ _ _ _ _ c.loop-field.invariant c.put_item.ensures
