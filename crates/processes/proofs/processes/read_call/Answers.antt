use Rattle.processes.specs.Reading.{called}
use Rattle.processes.proofs.Keeping.{keeps_then, keeps_pure}
use Rattle.processes.proofs.ProcessLaws.{called_stored}
use Rattle.processes.proofs.processes.read_call.Goals as goal

pub returns-clause-read : goal.returns-clause-read
unfolding called
returns-clause-read c =
    keeps_then _ _ _ _ _ _ _ _ c.in_ok-k.ensures.read
    (keeps_pure _ _ _ _ (called_stored c.args.code.now c.mark.new.self _ c.args.code.now.small c.mark.ensures.used c.mark.ensures.count c.mark.ensures.table))
