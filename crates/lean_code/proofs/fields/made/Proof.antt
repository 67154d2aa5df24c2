-- `lean_code::fields::made` meets its contract. Assumes nothing.
use Rattle.lean_code.proofs.FieldCode.{made_is}
use borrow.Author.Rules.{rules}
use Rattle.lean_code.proofs.fields.made.Statement.{statement}
use Rattle.lean_code.proofs.fields.made.Tie as tie

pub made_spec : {M : Type 1} → statement M
made_spec = tie.close (tie.spec (λ c κs. search rules) (λ c κs. search rules) (λ c. search (rules, made_is)))
