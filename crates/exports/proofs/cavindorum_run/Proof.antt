-- `exports::cavindorum_run` meets its contract. Assumes nothing.
use Rattle.exports.proofs.ExportLaws.{number_as}
use borrow.Author.Rules.{rules}
use Rattle.exports.proofs.cavindorum_run.Statement.{statement}
use Rattle.exports.proofs.cavindorum_run.Tie as tie

pub cavindorum_run_spec : {M : Type 1} → statement M
cavindorum_run_spec =
    tie.close
    (tie.spec
    (λ c κs. search rules)
    (λ c κs. search rules)
    (λ c. search rules)
    (λ c. (search (rules, number_as), search rules)))
