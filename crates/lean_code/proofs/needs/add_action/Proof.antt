-- `lean_code::needs::add_action` meets its contract. Assumes nothing.
use Rattle.lean_code.specs.Needs.{add_action}
use Rattle.lean_code.proofs.CaseLaws.{in_case_2}
use borrow.Author.Rules.{rules}
use Rattle.lean_code.proofs.needs.add_action.Statement.{statement}
use Rattle.lean_code.proofs.needs.add_action.Tie as tie

pub add_action_spec : {M : Type 1} → statement M
unfolding add_action
add_action_spec =
    tie.close
    (tie.spec
    (λ c. search rules)
    (λ c. search rules)
    (λ c κs. search rules)
    (λ c. search rules)
    (λ c κs. search rules)
    (λ c. search rules)
    (λ c κs. search rules)
    (λ c. search rules)
    (λ c κs. search rules)
    (λ c. search rules)
    (λ c. search rules)
    (λ c. search rules)
    (λ c. search rules)
    (λ c κs. search rules)
    (λ c. search (rules, in_case_2 add_action))
    (λ c. search (rules, in_case_2 add_action))
    (λ c. search (rules, in_case_2 add_action))
    (λ c. search (rules, in_case_2 add_action))
    (λ c. search (rules, in_case_2 add_action))
    (λ c. search (rules, in_case_2 add_action))
    (λ c. search (rules, in_case_2 add_action))
    (λ c. search (rules, in_case_2 add_action)))
