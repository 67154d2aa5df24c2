use Rattle.layout.proofs.PartLaws.{part_more}
use Rattle.net.specs.Records.{pattern_at}
use Rattle.written.specs.ImageOf.{pattern_bits}
use Rattle.net.specs.declared.instruction.TemplateField.{TemplateField}
use Rattle.layout.proofs.code.put_template.Goals as goal

pub loop-field-preserved : goal.loop-field-preserved
unfolding pattern_at
loop-field-preserved c =
    part_more c.args.c.now.template c.loop-field.field-index c.args.c.now.count c.loop-field-test.true (λ (f : TemplateField). pattern_bits f.pattern) _ _ _ _ _ c.loop-field.invariant c.put_pattern.ensures
