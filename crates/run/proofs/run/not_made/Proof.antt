-- `run::run::not_made` meets its contract. Assumes nothing.
use Rattle.run.specs.Calls.{finished}
use borrow.Author.Rules.{rules}
use Rattle.run.proofs.run.not_made.Statement.{statement}
use Rattle.run.proofs.run.not_made.Tie as tie

pub not_made_spec : {M : Type 1} → statement M
unfolding finished
not_made_spec =
    tie.close
    (tie.spec
    (λ c κs. search rules)
    (λ c. simp c.empty-net.ensures))
