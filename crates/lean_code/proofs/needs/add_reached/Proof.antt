-- `lean_code::needs::add_reached` meets its contract. Assumes nothing.
use Rattle.net.proofs.Laws.{branches}
use Rattle.lean_code.specs.Needs.{add_where}
use borrow.Author.Rules.{rules}
use Rattle.lean_code.proofs.needs.add_reached.Statement.{statement}
use Rattle.lean_code.proofs.needs.add_reached.Tie as tie

pub add_reached_spec : {M : Type 1} → statement M
unfolding add_where
add_reached_spec =
    tie.close
    (tie.spec
    (λ c κs. search rules)
    (λ c. search (rules, branches))
    (λ c. search (rules, branches)))
