-- `text::decimal::put_signed` meets its contract. Assumes nothing.
use Rattle.text.proofs.DecimalLaws.{signed_up, signed_below}
use borrow.Author.Rules.{rules}
use Rattle.text.proofs.decimal.put_signed.Statement.{statement}
use Rattle.text.proofs.decimal.put_signed.Tie as tie

pub put_signed_spec : {M : Type 1} → statement M
put_signed_spec =
    tie.close
    (tie.spec
    (λ c κs. search rules)
    (λ c. search rules)
    (λ c κs. search rules)
    (λ c. search rules)
    (λ c κs. search rules)
    (λ c. search rules)
    (λ c. search (rules, signed_up))
    (λ c. search rules)
    (λ c. search (rules, signed_below)))
