-- `lean_words::rights::covers` meets its contract: right by right. Assumes nothing.
use Rattle.lean_words.specs.Rights.{rights_in}
use Rattle.lean_words.proofs.RightsLaws.{covered_is}
use borrow.Author.Rules.{rules}
use Rattle.lean_words.proofs.rights.covers.Statement.{statement}
use Rattle.lean_words.proofs.rights.covers.Tie as tie

pub covers_spec : {M : Type 1} → statement M
unfolding rights_in
covers_spec =
    tie.close
    (tie.spec
    (λ c. search rules)
    (λ c. search rules)
    (λ c. search rules)
    (λ c. search rules)
    (λ c. search rules)
    (λ c. search rules)
    (λ c. search rules)
    (λ c. search rules)
    (λ c. search rules)
    (λ c. search rules)
    (λ c. search rules)
    (λ c. search rules)
    (λ c. search rules)
    (λ c. search rules)
    (λ c. search (rules, covered_is)))
