-- `season::fraction::Fraction::lowest` meets its contract. Assumes nothing.
use Rattle.season.specs.Fractions.{fraction, divided_by, lowest}
use borrow.Author.Rules.{rules}
use Rattle.season.proofs.fraction.Fraction.lowest.Statement.{statement}
use Rattle.season.proofs.fraction.Fraction.lowest.Tie as tie

pub lowest_spec : {M : Type 1} → statement M
unfolding fraction divided_by lowest
lowest_spec =
    tie.close
    (tie.spec
    (λ c κs. search rules)
    (λ c κs. search rules)
    (λ c κs. search rules)
    (λ c. cc))
