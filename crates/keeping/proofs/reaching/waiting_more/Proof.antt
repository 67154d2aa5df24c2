-- `keeping::reaching::waiting_more` meets its contract. Assumes nothing.
use Rattle.net.proofs.Laws.{branches}
use borrow.Author.Rules.{rules}
use Rattle.keeping.proofs.reaching.waiting_more.Statement.{statement}
use Rattle.keeping.proofs.reaching.waiting_more.Tie as tie

pub waiting_more_spec : {M : Type 1} → statement M
waiting_more_spec =
    tie.close
    (tie.spec
    (λ c. search (rules, branches))
    (λ c. search (rules, branches)))
