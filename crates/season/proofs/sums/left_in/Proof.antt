-- `season::sums::left_in` meets its contract. Assumes nothing.
use Rattle.net.proofs.Laws.{branches}
use borrow.Author.Rules.{rules}
use Rattle.season.proofs.sums.left_in.Statement.{statement}
use Rattle.season.proofs.sums.left_in.Tie as tie

pub left_in_spec : {M : Type 1} → statement M
left_in_spec =
    tie.close
    (tie.spec
    (λ c. search (rules, branches))
    (λ c. search (rules, branches)))
