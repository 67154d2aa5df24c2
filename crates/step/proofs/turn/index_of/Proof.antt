-- `step::turn::index_of` meets its contract. Assumes nothing.
use Rattle.net.proofs.Laws.{branches}
use Rattle.step.specs.Turn.{index_in}
use borrow.Author.Rules.{rules}
use Rattle.step.proofs.turn.index_of.Statement.{statement}
use Rattle.step.proofs.turn.index_of.Tie as tie

pub index_of_spec : {M : Type 1} → statement M
unfolding index_in
index_of_spec =
    tie.close
    (tie.spec
    (λ c. search rules)
    (λ c. search (rules, branches))
    (λ c. search (rules, branches)))
