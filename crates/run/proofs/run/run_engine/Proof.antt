-- `run::run::run_engine` meets its contract. Assumes nothing.
use Rattle.run.proofs.CallLaws.{made_finish, short_finish, made_left}
use borrow.Author.Rules.{rules}
use Rattle.run.proofs.run.run_engine.Statement.{statement}
use Rattle.run.proofs.run.run_engine.Tie as tie

pub run_engine_spec : {M : Type 1} → statement M
run_engine_spec =
    tie.close
    (tie.spec
    (λ c κs. search rules)
    (λ c κs. search rules)
    (λ c κs. search rules)
    (λ c. search rules)
    (λ c. (search (rules, made_finish), search (rules, made_left)))
    (λ c. search rules)
    (λ c. (search (rules, short_finish), search (rules, made_left))))
