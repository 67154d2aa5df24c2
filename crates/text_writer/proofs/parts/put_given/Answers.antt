use Rattle.std.proofs.Common.{sym}
use Rattle.net.specs.Choice.{choose}
use Rattle.sources.specs.Printed.{given}
use Rattle.text.proofs.WriterLaws.{after_none}
use Rattle.text_writer.proofs.parts.put_given.Goals as goal

pub returns-then-shown : goal.returns-then-shown
unfolding given choose
returns-then-shown c = rw c.if-shown.true c.put.ensures

pub returns-else-shown : goal.returns-else-shown
unfolding given choose
returns-else-shown c = rw c.if-shown.false (sym (after_none c.args.out.now))
