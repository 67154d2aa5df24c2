-- `step::turn::unused_or` meets its contract. Assumes nothing.
use Rattle.net.proofs.Laws.{branches}
use Rattle.step.specs.Turn.{near}
use borrow.Author.Rules.{rules}
use Rattle.step.proofs.turn.unused_or.Statement.{statement}
use Rattle.step.proofs.turn.unused_or.Tie as tie

pub unused_or_spec : {M : Type 1} → statement M
unfolding near
unused_or_spec =
    tie.close
    (tie.spec
    (λ c. search rules)
    (λ c. search (rules, branches))
    (λ c. search (rules, branches)))
