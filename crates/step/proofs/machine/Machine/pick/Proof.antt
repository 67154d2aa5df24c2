-- `step::machine::Machine::pick` meets its contract. Assumes nothing.
use Rattle.net.proofs.Laws.{if_call, if_not_call}
use Rattle.step.proofs.Lengths.{machine_shaped}
use Rattle.step.proofs.SoundKept.{pick_keeps}
use Rattle.step.specs.Pick.{pick_of, unchanged}
use borrow.Author.Rules.{rules}
use Rattle.step.proofs.machine.Machine.pick.Statement.{statement}
use Rattle.step.proofs.machine.Machine.pick.Tie as tie

pub pick_spec : {M : Type 1} → statement M
unfolding pick_of unchanged
pick_spec =
    tie.close
    (tie.spec
    (λ c κs. search rules)
    (λ c κs. search rules)
    (λ c. pick_keeps _ _ _ (machine_shaped _ _ c.before.before.before.before.well_formed.0) (search (rules, if_call)))
    (λ c. pick_keeps _ _ _ (machine_shaped _ _ c.before.before.before.well_formed.0) (search (rules, if_not_call))))
