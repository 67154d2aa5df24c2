-- `lean_words::rights::grants` meets its contract. Assumes nothing.
use Rattle.lean_words.specs.Rights.{grants_flags}
use Rattle.lean_words.proofs.RightsLaws.{granted}
use borrow.Author.Rules.{rules}
use Rattle.lean_words.proofs.rights.grants.Statement.{statement}
use Rattle.lean_words.proofs.rights.grants.Tie as tie

pub grants_spec : {M : Type 1} → statement M
unfolding grants_flags
grants_spec =
    tie.close
    (tie.spec
    (λ c. search rules)
    (λ c. search rules)
    (λ c. search rules)
    (λ c. search rules)
    (λ c. search (rules, granted)))
