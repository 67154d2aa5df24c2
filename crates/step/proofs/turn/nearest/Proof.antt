-- `step::turn::nearest` meets its contract. Assumes nothing.
use Rattle.net.proofs.Laws.{branches}
use Rattle.step.specs.Turn.{near}
use borrow.Author.Rules.{rules}
use Rattle.step.proofs.turn.nearest.Statement.{statement}
use Rattle.step.proofs.turn.nearest.Tie as tie

pub nearest_spec : {M : Type 1} → statement M
unfolding near
nearest_spec =
    tie.close
    (tie.spec
    (λ c. search rules)
    (λ c. search (rules, branches))
    (λ c. search (rules, branches)))
