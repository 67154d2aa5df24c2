-- `step::sharing::shared_by` meets its contract. Assumes nothing.
use Rattle.step.specs.Sharing.{node_in}
use Rattle.step.proofs.SharingLaws.{shared_as}
use borrow.Author.Rules.{rules}
use Rattle.step.proofs.sharing.shared_by.Statement.{statement}
use Rattle.step.proofs.sharing.shared_by.Tie as tie

pub shared_by_spec : {M : Type 1} → statement M
unfolding node_in
shared_by_spec =
    tie.close
    (tie.spec
    (λ c κs. search rules)
    (λ c κs. search rules)
    (λ c. search rules)
    (λ c. search rules)
    (λ c. search rules)
    (λ c κs. search rules)
    (λ c. search rules)
    (λ c. search rules)
    (λ c κs. search rules)
    (λ c κs. search rules)
    (λ c. search (rules, shared_as)))
