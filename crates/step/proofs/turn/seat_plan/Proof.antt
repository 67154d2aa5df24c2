-- `step::turn::seat_plan` meets its contract. Assumes nothing.
use Rattle.net.proofs.Laws.{if_call, if_not_call}
use Rattle.step.proofs.TurnLaws.{planned_by, refusing_as}
use Rattle.step.specs.Turn.{seat_plan}
use borrow.Author.Rules.{rules}
use Rattle.step.proofs.turn.seat_plan.Statement.{statement}
use Rattle.step.proofs.turn.seat_plan.Tie as tie

pub seat_plan_spec : {M : Type 1} → statement M
unfolding seat_plan
seat_plan_spec =
    tie.close
    (tie.spec
    (λ c κs. search rules)
    (λ c κs. search rules)
    (λ c κs. search rules)
    (λ c κs. search rules)
    (λ c κs. search rules)
    (λ c. search (rules, if_call, planned_by))
    (λ c. search (rules, if_not_call, refusing_as)))
