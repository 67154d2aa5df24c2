-- `step::turn::host_of` meets its contract. Assumes nothing.
use Rattle.step.specs.Pick.{host_of}
use borrow.Author.Rules.{rules}
use Rattle.step.proofs.turn.host_of.Statement.{statement}
use Rattle.step.proofs.turn.host_of.Tie as tie

pub host_of_spec : {M : Type 1} → statement M
unfolding host_of
host_of_spec =
    tie.close
    (tie.spec
    (λ c. search (rules)))
