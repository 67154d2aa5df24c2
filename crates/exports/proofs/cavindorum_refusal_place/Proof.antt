-- `exports::cavindorum_refusal_place` meets its contract. Assumes nothing.
use Rattle.exports.proofs.ExportLaws.{place_as}
use borrow.Author.Rules.{rules}
use Rattle.exports.proofs.cavindorum_refusal_place.Statement.{statement}
use Rattle.exports.proofs.cavindorum_refusal_place.Tie as tie

pub cavindorum_refusal_place_spec : {M : Type 1} → statement M
cavindorum_refusal_place_spec =
    tie.close
    (tie.spec
    (λ c κs. search rules)
    (λ c κs. search rules)
    (λ c. search (rules, place_as)))
