-- `season::fraction::Fraction::larger` meets its contract. Assumes nothing.
use Rattle.season.specs.Fractions.{larger}
use borrow.Author.Rules.{rules}
use Rattle.season.proofs.fraction.Fraction.larger.Statement.{statement}
use Rattle.season.proofs.fraction.Fraction.larger.Tie as tie

pub larger_spec : {M : Type 1} → statement M
unfolding larger
larger_spec =
    tie.close
    (tie.spec
    (λ c κs. search rules)
    (λ c κs. search rules)
    (λ c. cc))
