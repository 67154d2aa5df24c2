use Rattle.std.proofs.Common.{refl}
use Rattle.text.specs.Writer.{written}
use Rattle.text.proofs.writer.Writer.written.Goals as goal

pub returns-then-self : goal.returns-then-self
unfolding written
returns-then-self g c = rw c.if-self.true refl

pub returns-else-self : goal.returns-else-self
unfolding written
returns-else-self g c = rw c.if-self.false refl
