-- `season::sums::Tally::with_counts` meets its contract. Assumes nothing.
use Rattle.season.specs.Sums.{with_counts}
use Rattle.season.specs.Fractions.{fraction}
use borrow.Author.Rules.{rules}
use Rattle.season.proofs.sums.Tally.with_counts.Statement.{statement}
use Rattle.season.proofs.sums.Tally.with_counts.Tie as tie

pub with_counts_spec : {M : Type 1} → statement M
unfolding with_counts fraction
with_counts_spec =
    tie.close
    (tie.spec
    (λ c κs. search rules)
    (λ c κs. search rules)
    (λ c κs. search rules)
    (λ c κs. search rules)
    (λ c. cc))
