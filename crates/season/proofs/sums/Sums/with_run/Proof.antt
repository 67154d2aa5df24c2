-- `season::sums::Sums::with_run` meets its contract. Assumes nothing.
use Rattle.season.proofs.AddLaws.{added_by, added_as}
use borrow.Author.Rules.{rules}
use Rattle.season.proofs.sums.Sums.with_run.Statement.{statement}
use Rattle.season.proofs.sums.Sums.with_run.Tie as tie

pub with_run_spec : {M : Type 1} → statement M
unfolding added_by
with_run_spec =
    tie.close
    (tie.spec
    (λ c. search rules)
    (λ c κs. search rules)
    (λ c. search rules)
    (λ c. search rules)
    (λ c κs. search rules)
    (λ c. search rules)
    (λ c. search rules)
    (λ c. search rules)
    (λ c. search (rules, added_as))
    (λ c. search (rules, added_as))
    (λ c. search (rules, added_as))
    (λ c. search (rules, added_as)))
