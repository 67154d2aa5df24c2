-- `season::counts::count_if` meets its contract. Assumes nothing.
use Rattle.net.proofs.Laws.{branches}
use Rattle.season.specs.Counting.{one_more}
use borrow.Author.Rules.{rules}
use Rattle.season.proofs.counts.count_if.Statement.{statement}
use Rattle.season.proofs.counts.count_if.Tie as tie

pub count_if_spec : {M : Type 1} → statement M
unfolding one_more
count_if_spec =
    tie.close
    (tie.spec
    (λ c κs. search rules)
    (λ c. search (rules, branches))
    (λ c. search (rules, branches)))
