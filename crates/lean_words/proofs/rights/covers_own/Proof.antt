-- `lean_words::rights::covers_own` meets its contract: right by right. Assumes nothing.
use Rattle.lean_words.specs.Rights.{rights_in, own_in}
use Rattle.lean_words.proofs.RightsLaws.{covered_is}
use borrow.Author.Rules.{rules}
use Rattle.lean_words.proofs.rights.covers_own.Statement.{statement}
use Rattle.lean_words.proofs.rights.covers_own.Tie as tie

pub covers_own_spec : {M : Type 1} → statement M
unfolding rights_in own_in
covers_own_spec =
    tie.close
    (tie.spec
    (λ c. search rules)
    (λ c. search rules)
    (λ c. search rules)
    (λ c. search rules)
    (λ c. search rules)
    (λ c. search rules)
    (λ c. search rules)
    (λ c. search rules)
    (λ c. search rules)
    (λ c. search rules)
    (λ c. search rules)
    (λ c. search (rules, covered_is)))
