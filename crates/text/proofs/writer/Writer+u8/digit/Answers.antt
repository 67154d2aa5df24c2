use Rattle.text.specs.Decimal.{digit}
use Rattle.text.proofs.writer.Writer+u8.digit.Goals as goal

pub returns : goal.returns
unfolding digit
returns c = c.put.ensures
