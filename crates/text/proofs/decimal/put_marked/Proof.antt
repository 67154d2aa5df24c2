-- `text::decimal::put_marked` meets its contract. Assumes nothing.
use Rattle.text.proofs.WritingLaws.{wrote_length, wrote_one_then}
use borrow.Author.Rules.{rules}
use Rattle.text.proofs.decimal.put_marked.Statement.{statement}
use Rattle.text.proofs.decimal.put_marked.Tie as tie

pub put_marked_spec : {M : Type 1} → statement M
put_marked_spec =
    tie.close
    (tie.spec
    (λ c κs. search rules)
    (λ c κs. search rules)
    (λ c. search (rules, wrote_length))
    (λ c. search (rules, wrote_one_then)))
