-- `run::run::run` meets its contract. Assumes nothing.
use Rattle.run.proofs.CallLaws.{engine_ran, engine_refused, ran_finish, ran_left, refused_finish, refused_left}
use borrow.Author.Rules.{rules}
use Rattle.run.proofs.run.run.Statement.{statement}
use Rattle.run.proofs.run.run.Tie as tie

pub run_spec : {M : Type 1} → statement M
run_spec =
    tie.close
    (tie.spec
    (λ c κs. search rules)
    (λ c. search rules)
    (λ c κs. search rules)
    (λ c. search rules)
    (λ c κs. search rules)
    (λ c. search rules)
    (λ c. (search (rules, ran_finish, engine_ran), search (rules, ran_left, engine_ran)))
    (λ c. (search (rules, refused_finish, engine_refused), search (rules, refused_left, engine_refused))))
