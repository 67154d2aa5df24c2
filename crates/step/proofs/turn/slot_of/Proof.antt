-- `step::turn::slot_of` meets its contract. Assumes nothing.
use Rattle.step.specs.Pick.{slot_of}
use borrow.Author.Rules.{rules}
use Rattle.step.proofs.turn.slot_of.Statement.{statement}
use Rattle.step.proofs.turn.slot_of.Tie as tie

pub slot_of_spec : {M : Type 1} → statement M
unfolding slot_of
slot_of_spec =
    tie.close
    (tie.spec
    (λ c. search rules)
    (λ c. search (rules)))
