-- `lean_code::fields::is_there` meets its contract. Assumes nothing.
use Rattle.lean_code.specs.Fields.{is_there}
use borrow.Author.Rules.{rules}
use Rattle.lean_code.proofs.fields.is_there.Statement.{statement}
use Rattle.lean_code.proofs.fields.is_there.Tie as tie

pub is_there_spec : {M : Type 1} → statement M
unfolding is_there
is_there_spec =
    tie.close
    (tie.spec
    (λ c. search rules)
    (λ c. search rules)
    (λ c. search rules))
