-- `run::picks::first_picks` meets its contract. Assumes nothing.
use Rattle.run.proofs.FirstPicks.{first_all}
use borrow.Author.Rules.{rules}
use Rattle.run.proofs.picks.first_picks.Statement.{statement}
use Rattle.run.proofs.picks.first_picks.Tie as tie

pub first_picks_spec : {M : Type 1} → statement M
first_picks_spec =
    tie.close
    (tie.spec
    (λ c. (search rules, (search rules, search (rules, first_all))))
    (λ c. search rules))
