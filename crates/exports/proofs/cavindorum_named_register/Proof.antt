-- `exports::cavindorum_named_register` meets its contract. Assumes nothing.
use Rattle.exports.proofs.ExportLaws.{length_as}
use borrow.Author.Rules.{rules}
use Rattle.exports.proofs.cavindorum_named_register.Statement.{statement}
use Rattle.exports.proofs.cavindorum_named_register.Tie as tie

pub cavindorum_named_register_spec : {M : Type 1} → statement M
cavindorum_named_register_spec =
    tie.close
    (tie.spec
    (λ c κs. search rules)
    (λ c κs. search rules)
    (λ c. search rules)
    (λ c. (search (rules, length_as), search rules)))
