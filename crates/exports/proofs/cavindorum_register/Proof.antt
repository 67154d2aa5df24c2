-- `exports::cavindorum_register` meets its contract. Assumes nothing.
use Rattle.exports.proofs.ExportLaws.{length-as}
use borrow.Author.Rules.{rules}
use Rattle.exports.proofs.cavindorum_register.Statement.{statement}
use Rattle.exports.proofs.cavindorum_register.Tie as tie

pub cavindorum-register-spec : {M : Type 1} → statement M
cavindorum-register-spec =
    tie.close
    (tie.spec
    (λ c κs. search rules)
    (λ c κs. search rules)
    (λ c. search rules)
    (λ c. (search (rules, length-as), search rules)))
