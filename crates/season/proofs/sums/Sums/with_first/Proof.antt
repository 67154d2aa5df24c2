-- `season::sums::Sums::with_first` meets its contract. Assumes nothing.
use Rattle.run.proofs.FirstPicks.{first_count, first_few}
use Rattle.season.proofs.AddLaws.{first_run}
use borrow.Author.Rules.{rules}
use Rattle.season.proofs.sums.Sums.with_first.Statement.{statement}
use Rattle.season.proofs.sums.Sums.with_first.Tie as tie

pub with_first_spec : {M : Type 1} → statement M
with_first_spec =
    tie.close
    (tie.spec
    (λ c κs. search rules)
    (λ c. search (rules, first_count))
    (λ c κs. (search rules, search (rules, first_few)))
    (λ c. search (rules, first_run)))
