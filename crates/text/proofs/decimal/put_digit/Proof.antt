-- `text::decimal::put_digit` meets its contract. Assumes nothing.
use Rattle.text.specs.Decimal.{digit}
use borrow.Author.Rules.{rules}
use Rattle.text.proofs.decimal.put_digit.Statement.{statement}
use Rattle.text.proofs.decimal.put_digit.Tie as tie

pub put_digit_spec : {M : Type 1} → statement M
unfolding digit
put_digit_spec =
    tie.close
    (tie.spec
    (λ c. search rules)
    (λ c. search rules)
    (λ c κs. search rules)
    (λ c. search rules)
    (λ c. search rules))
