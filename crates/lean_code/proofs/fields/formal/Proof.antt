-- `lean_code::fields::formal` meets its contract. Assumes nothing.
use Rattle.lean_code.specs.Fields.{formal_words}
use borrow.Author.Rules.{rules}
use Rattle.lean_code.proofs.fields.formal.Statement.{statement}
use Rattle.lean_code.proofs.fields.formal.Tie as tie

pub formal_spec : {M : Type 1} → statement M
unfolding formal_words
formal_spec =
    tie.close
    (tie.spec
    (λ c κs. search rules)
    (λ c. cc))
