use Rattle.std.proofs.Common.{arith, sym, ap, ◌∙◌}
use Rattle.text.specs.Writer.{after}
use Rattle.text.proofs.WriterLaws.{after_then, after_none}
use Rattle.layout.proofs.NumberLaws.{bits_none, bits_more}
use Rattle.layout.proofs.bits.+put_number.Goals as goal

pub returns-then-width-gt0 : goal.returns-then-width-gt0
returns-then-width-gt0 t c =
    after_then _ _ _ _ _ c.put_number.ensures c.put.ensures
    ∙ ap (after c.args.out.now) (bits_more c.args.width c.args.value c.if-width-gt0.true)

pub returns-else-width-gt0 : goal.returns-else-width-gt0
returns-else-width-gt0 t c =
    sym (after_none c.args.out.now) ∙ ap (after c.args.out.now) (sym (bits_none c.args.width c.args.value (omega arith)))
