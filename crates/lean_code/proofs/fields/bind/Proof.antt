-- `lean_code::fields::bind` meets its contract: four words, then the place. Assumes nothing.
use Rattle.net.specs.Choice.{fold}
use Rattle.lean_code.specs.Fields.{bound_words}
use borrow.Author.Rules.{rules}
use Rattle.lean_code.proofs.fields.bind.Statement.{statement}
use Rattle.lean_code.proofs.fields.bind.Tie as tie

pub bind_spec : {M : Type 1} → statement M
unfolding bound_words fold
bind_spec =
    tie.close
    (tie.spec
    (λ c. search rules)
    (λ c. search rules)
    (λ c. search rules)
    (λ c. search rules)
    (λ c. search rules)
    (λ c. search rules)
    (λ c. search rules)
    (λ c. search rules)
    (λ c. search rules)
    (λ c. search rules)
    (λ c. search rules)
    (λ c. search rules)
    (λ c. search rules)
    (λ c. search rules)
    (λ c. search rules)
    (λ c. search rules)
    (λ c. search rules)
    (λ c. search rules)
    (λ c. search rules)
    (λ c. search rules)
    (λ c. search rules)
    (λ c. search rules))
