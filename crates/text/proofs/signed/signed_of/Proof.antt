-- `text::signed::signed_of` meets its contract. Assumes nothing.
use Rattle.text.proofs.SignedLaws.{high_fits, signed_low, signed_high}
use borrow.Author.Rules.{rules}
use Rattle.text.proofs.signed.signed_of.Statement.{statement}
use Rattle.text.proofs.signed.signed_of.Tie as tie

pub signed_of_spec : {M : Type 1} → statement M
signed_of_spec =
    tie.close
    (tie.spec
    (λ c. search rules)
    (λ c. search rules)
    (λ c. search rules)
    (λ c. search (rules, high_fits))
    (λ c. search (rules, signed_low))
    (λ c. search (rules, signed_high)))
