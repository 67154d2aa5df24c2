use Rattle.text.proofs.WriterLaws.{after_one, after_past}
use Rattle.text.proofs.writer.Writer.put.Goals as goal

pub returns-then-self : goal.returns-then-self
returns-then-self g c = after_one c.args.self.now c.args.x c.if-self.true

pub returns-else-self : goal.returns-else-self
returns-else-self g c = after_past c.args.self.now c.args.x c.if-self.false
