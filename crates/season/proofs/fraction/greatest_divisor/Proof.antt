-- `season::fraction::greatest_divisor` meets its contract. Assumes nothing.
use mathlib.Core.Path.{◌≡◌}
use Rattle.season.specs.Fractions.{greatest_divisor}
use Rattle.season.proofs.Lowest.{divisor_falls, divisor_again, divisor_last}
use borrow.Author.Rules.{rules}
use Rattle.season.proofs.fraction.greatest_divisor.Statement.{statement}
use Rattle.season.proofs.fraction.greatest_divisor.Tie as tie

abbrev invariant-loop-y : tie.invariant-loop-y
invariant-loop-y a b x₀ y₀ x y = greatest_divisor x y ≡ greatest_divisor a b

abbrev decreases-loop-y : tie.decreases-loop-y
decreases-loop-y a b x₀ y₀ x y = y

pub greatest_divisor_spec : {M : Type 1} → statement M
greatest_divisor_spec =
    tie.close
    (tie.spec
    invariant-loop-y
    decreases-loop-y
    (λ c. search rules)
    (λ c. search rules)
    (λ c. search (rules, divisor_falls))
    (λ c. search (rules, divisor_again))
    (λ c. search (rules, divisor_last)))
