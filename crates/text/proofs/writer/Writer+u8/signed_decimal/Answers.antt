use Rattle.text.proofs.WriterLaws.{after_up, after_down}
use Rattle.text.proofs.writer.Writer+u8.signed_decimal.Goals as goal
use Rattle.text.proofs.writer.Writer+u8.signed_decimal.Goals.{then-x-lt0, else-x-lt0}

pub returns : goal.returns
returns c =
    elim c.if-x-lt0.branch [
      | then-x-lt0 w ↦ after_down _ _ _ c.ranges.x _ c.unsigned_abs.ensures.value c.if-x-lt0.self w.if-x-lt0.true (rw w.self-is w.put.ensures) c.decimal.ensures
      | else-x-lt0 w ↦ after_up _ _ _ c.ranges.x _ c.unsigned_abs.ensures.value w.if-x-lt0.false (rw w.self-is at c.decimal.ensures)
    ]
