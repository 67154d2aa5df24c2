-- `lean_code::heads::aimed` meets its contract. Assumes nothing.
use Rattle.lean_code.proofs.HeadLaws.{aimed_is}
use borrow.Author.Rules.{rules}
use Rattle.lean_code.proofs.heads.aimed.Statement.{statement}
use Rattle.lean_code.proofs.heads.aimed.Tie as tie

pub aimed_spec : {M : Type 1} → statement M
aimed_spec =
    tie.close
    (tie.spec
    (λ c κs. search rules)
    (λ c κs. search rules)
    (λ c κs. search rules)
    (λ c. search (rules, aimed_is)))
