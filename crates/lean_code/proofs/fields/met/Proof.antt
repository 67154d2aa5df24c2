-- `lean_code::fields::met` meets its contract. Assumes nothing.
use Rattle.lean_code.proofs.FieldCode.{met_is}
use borrow.Author.Rules.{rules}
use Rattle.lean_code.proofs.fields.met.Statement.{statement}
use Rattle.lean_code.proofs.fields.met.Tie as tie

pub met_spec : {M : Type 1} → statement M
met_spec = tie.close (tie.spec (λ c κs. search rules) (λ c κs. search rules) (λ c. search (rules, met_is)))
