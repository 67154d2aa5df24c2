use Rattle.text.specs.Bytes.{bytes}
use Rattle.processes.specs.Reading.{stopped}
use Rattle.processes.proofs.Keeping.{keeps_next, keeps_pure}
use Rattle.processes.proofs.ProcessLaws.{nil_stored}
use Rattle.processes.proofs.processes.read_nil.Goals as goal

pub returns-clause-read : goal.returns-clause-read
unfolding stopped bytes
returns-clause-read c =
    keeps_next _ _ _ _ _ _ _ _ c.in_ok-word.ensures
    (keeps_pure _ _ _ _
    (nil_stored c.args.code.now c.number-n.new.self c.store.new.self c.number-n.result c.args.code.now.small c.number-n.ensures.number c.number-n.ensures.counted c.number-n.ensures.table c.number-n.ensures.used
    (rw c.of.ensures at c.store.ensures.table) c.store.ensures.count c.store.ensures.used))
