use Rattle.text.proofs.writer.Writer+u8.+decimal.Given as goal

abbrev pub decreases-decimal : goal.decreases-decimal
decreases-decimal l = l.n
