use Rattle.std.proofs.Common.{sym}
use Rattle.net.specs.Choice.{choose}
use Rattle.sources.specs.Printed.{given}
use Rattle.text.proofs.WriterLaws.{after_none}
use Rattle.text.specs.Bytes.{bytes}
use Rattle.text_writer.proofs.policies.put_create.Goals as goal

pub returns-then-create : goal.returns-then-create
unfolding given choose bytes
returns-then-create c = rw c.if-create.true c.put_all.ensures

pub returns-else-create : goal.returns-else-create
unfolding given choose
returns-else-create c = rw c.if-create.false (sym (after_none c.args.out.now))
