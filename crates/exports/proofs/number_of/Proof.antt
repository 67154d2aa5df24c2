-- `exports::number_of` meets its contract. Assumes nothing.
use Rattle.plans.proofs.PlanLaws.{by}
use Rattle.run.specs.Calls.{finish_number}
use borrow.Author.Rules.{rules}
use Rattle.exports.proofs.number_of.Statement.{statement}
use Rattle.exports.proofs.number_of.Tie as tie

pub number_of_spec : {M : Type 1} → statement M
unfolding finish_number
number_of_spec =
    tie.close
    (tie.spec
    (λ c. search rules)
    (λ c. search rules)
    (λ c. search rules)
    (λ c. search rules)
    (λ c. search (rules, by finish_number))
    (λ c. search (rules, by finish_number))
    (λ c. search (rules, by finish_number))
    (λ c. search (rules, by finish_number)))
