-- `step::turn::is_ready` meets its contract. Assumes nothing.
use Rattle.net.specs.Choice.{both}
use Rattle.net.proofs.Laws.{branches}
use Rattle.step.specs.Pick.{spare_of, host_of}
use Rattle.step.specs.Turn.{ready}
use borrow.Author.Rules.{rules}
use Rattle.step.proofs.turn.is_ready.Statement.{statement}
use Rattle.step.proofs.turn.is_ready.Tie as tie

pub is_ready_spec : {M : Type 1} → statement M
unfolding ready spare_of host_of both
is_ready_spec =
    tie.close
    (tie.spec
    (λ c. search rules)
    (λ c. search (rules, branches)))
