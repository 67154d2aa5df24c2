use Rattle.text.specs.Bytes.{bytes}
use Rattle.processes.specs.Reading.{creation}
use Rattle.processes.proofs.Keeping.{keeps_next, keeps_then, keeps_pure}
use Rattle.processes.proofs.ActionLaws.{newloc_alone}
use Rattle.processes.proofs.actions.read_newloc.Goals as goal

pub returns : goal.returns
unfolding creation bytes
returns c =
    keeps_next _ _ _ _ _ _ _ _ c.in_ok-word.ensures
    (keeps_then _ _ _ _ _ _ _ _ c.in_ok-v.ensures
    (keeps_next _ _ _ _ _ _ _ _ c.in_ok-byte.ensures
    (keeps_pure _ _ _ _ (newloc_alone _ _ _ c.zero.ensures c.entry_for.ensures))))
