-- `lean_code::fields::defined` meets its contract: four tests. Assumes nothing.
use Rattle.lean_code.specs.Fields.{defined_words}
use Rattle.lean_code.proofs.FieldCode.{four_hold}
use borrow.Author.Rules.{rules}
use Rattle.lean_code.proofs.fields.defined.Statement.{statement}
use Rattle.lean_code.proofs.fields.defined.Tie as tie

pub defined_spec : {M : Type 1} → statement M
unfolding defined_words
defined_spec =
    tie.close
    (tie.spec
    (λ c. search rules)
    (λ c. search rules)
    (λ c κs. search rules)
    (λ c. search rules)
    (λ c. search rules)
    (λ c κs. search rules)
    (λ c. search rules)
    (λ c. search rules)
    (λ c κs. search rules)
    (λ c. search rules)
    (λ c. search rules)
    (λ c κs. search rules)
    (λ c. search (rules, four_hold)))
