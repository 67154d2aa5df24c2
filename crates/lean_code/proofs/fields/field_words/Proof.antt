-- `lean_code::fields::field_words` meets its contract: an arm for each kind. Assumes nothing.
use Rattle.lean_code.specs.Fields.{field_words}
use Rattle.lean_code.proofs.CaseLaws.{in_case}
use Rattle.lean_code.proofs.FieldCode.{actual_as, reading_field}
use borrow.Author.Rules.{rules}
use Rattle.lean_code.proofs.fields.field_words.Statement.{statement}
use Rattle.lean_code.proofs.fields.field_words.Tie as tie

pub field_words_spec : {M : Type 1} → statement M
unfolding field_words
field_words_spec =
    tie.close
    (tie.spec
    (λ c. search rules)
    (λ c κs. search rules)
    (λ c κs. search rules)
    (λ c. search rules)
    (λ c. search rules)
    (λ c κs. search rules)
    (λ c. search rules)
    (λ c κs. search rules)
    (λ c. search rules)
    (λ c κs. search rules)
    (λ c κs. search rules)
    (λ c. search rules)
    (λ c. search rules)
    (λ c κs. search rules)
    (λ c. search rules)
    (λ c κs. search rules)
    (λ c. search (rules, reading_field))
    (λ c. search (rules, in_case field_words))
    (λ c. search (rules, in_case field_words))
    (λ c. search (rules, in_case field_words, actual_as))
    (λ c. search (rules, in_case field_words))
    (λ c. search (rules, in_case field_words)))
