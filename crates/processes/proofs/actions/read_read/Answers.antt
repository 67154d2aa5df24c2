use Rattle.text.specs.Bytes.{bytes}
use Rattle.processes.specs.Reading.{communication}
use Rattle.processes.proofs.Keeping.{keeps_next, keeps_then, keeps_pure}
use Rattle.processes.proofs.ActionLaws.{read_alone}
use Rattle.processes.proofs.actions.read_read.Goals as goal

pub returns : goal.returns
unfolding communication bytes
returns c =
    keeps_next _ _ _ _ _ _ _ _ c.in_ok-word.ensures
    (keeps_then _ _ _ _ _ _ _ _ c.in_ok-template.ensures
    (keeps_then _ _ _ _ _ _ _ _ c.in_ok-target.ensures
    (keeps_pure _ _ _ _ (read_alone _ _ _ _ c.target_word.ensures c.entry_for.ensures))))
