use Rattle.text.proofs.WriterLaws.{after_digit, after_digits}
use Rattle.text.proofs.writer.Writer+u8.+decimal.Goals as goal
use Rattle.text.proofs.writer.Writer+u8.+decimal.Goals.{then-n-ge10, else-n-ge10}

pub returns : goal.returns
returns t c =
    elim c.if-n-ge10.branch [
      | then-n-ge10 w ↦ after_digits _ _ _ c.if-n-ge10.self w.if-n-ge10.true c.ranges.n (rw w.self-is w.decimal.ensures) c.digit.ensures
      | else-n-ge10 w ↦ after_digit _ _ _ w.if-n-ge10.false (rw w.self-is at c.digit.ensures)
    ]
