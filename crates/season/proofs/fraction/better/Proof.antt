-- `season::fraction::better` meets its contract. Assumes nothing.
use Rattle.net.proofs.Laws.{if_call, if_not_call}
use Rattle.season.specs.Fractions.{against}
use borrow.Author.Rules.{rules}
use Rattle.season.proofs.fraction.better.Statement.{statement}
use Rattle.season.proofs.fraction.better.Tie as tie

pub better_spec : {M : Type 1} → statement M
unfolding against
better_spec =
    tie.close
    (tie.spec
    (λ c κs. search rules)
    (λ c. search (rules, if_call, if_not_call))
    (λ c. search (rules, if_call, if_not_call)))
