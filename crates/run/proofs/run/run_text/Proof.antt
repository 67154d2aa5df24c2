-- `run::run::run_text` meets its contract. Assumes nothing.
use Rattle.run.proofs.CallLaws.{text_engine_ran, text_engine_refused, ran_finish, ran_left, text_refused_finish, text_refused_left}
use borrow.Author.Rules.{rules}
use Rattle.run.proofs.run.run_text.Statement.{statement}
use Rattle.run.proofs.run.run_text.Tie as tie

pub run_text_spec : {M : Type 1} → statement M
run_text_spec =
    tie.close
    (tie.spec
    (λ c κs. search rules)
    (λ c. search rules)
    (λ c κs. search rules)
    (λ c. search rules)
    (λ c κs. search rules)
    (λ c. search rules)
    (λ c. (search (rules, ran_finish, text_engine_ran), search (rules, ran_left, text_engine_ran)))
    (λ c. (search (rules, text_refused_finish, text_engine_refused), search (rules, text_refused_left, text_engine_refused))))
