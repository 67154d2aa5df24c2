-- `season::counts::count_pick` meets its contract. Assumes nothing.
use Rattle.season.proofs.CountLaws.{bumped_is}
use borrow.Author.Rules.{rules}
use Rattle.season.proofs.counts.count_pick.Statement.{statement}
use Rattle.season.proofs.counts.count_pick.Tie as tie

pub count_pick_spec : {M : Type 1} → statement M
count_pick_spec =
    tie.close
    (tie.spec
    (λ c κs. search rules)
    (λ c. search rules)
    (λ c. search rules)
    (λ c κs. search rules)
    (λ c. search rules)
    (λ c. search rules)
    (λ c. search rules)
    (λ c. search rules)
    (λ c κs. search rules)
    (λ c. search rules)
    (λ c. search rules)
    (λ c. search (rules, bumped_is)))
