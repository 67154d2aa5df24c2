-- `season::sums::Sums::add` meets its contract. Assumes nothing.
use Rattle.season.proofs.AddLaws.{stopped_run}
use borrow.Author.Rules.{rules}
use Rattle.season.proofs.sums.Sums.add.Statement.{statement}
use Rattle.season.proofs.sums.Sums.add.Tie as tie

pub add_spec : {M : Type 1} → statement M
add_spec =
    tie.close
    (tie.spec
    (λ c κs. search rules)
    (λ c. search (rules, stopped_run))
    (λ c. search rules))
