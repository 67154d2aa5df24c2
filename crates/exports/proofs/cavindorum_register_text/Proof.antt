-- `exports::cavindorum_register_text` meets its contract. Assumes nothing.
use Rattle.exports.proofs.ExportLaws.{length_as}
use borrow.Author.Rules.{rules}
use Rattle.exports.proofs.cavindorum_register_text.Statement.{statement}
use Rattle.exports.proofs.cavindorum_register_text.Tie as tie

pub cavindorum_register_text_spec : {M : Type 1} → statement M
cavindorum_register_text_spec =
    tie.close
    (tie.spec
    (λ c κs. search rules)
    (λ c κs. search rules)
    (λ c. search rules)
    (λ c. (search (rules, length_as), search rules)))
