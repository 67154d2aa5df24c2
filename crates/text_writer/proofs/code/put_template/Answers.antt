use Rattle.std.proofs.Common.{sym}
use Rattle.text_writer.proofs.LoopLaws.{separated_step}
use Rattle.sources.specs.Printed.{pattern_text, separated}
use Rattle.text.specs.Bytes.{bytes}
use Rattle.text.proofs.WriterLaws.{after_none}
use Rattle.net.specs.declared.instruction.TemplateField.{TemplateField}
use Rattle.text_writer.proofs.code.put_template.Goals as goal

pub loop-i-init : goal.loop-i-init
unfolding separated
loop-i-init c =
    sym (after_none _)

pub loop-i-preserved : goal.loop-i-preserved
unfolding bytes
loop-i-preserved c =
    separated_step (λ (f : TemplateField). pattern_text f.pattern) c.args.c.now.template c.loop-i.i c.args.c.now.count c.loop-i-test.true _ _ _ _ c.loop-i.invariant c.put_pattern.ensures
