-- `lean_code::needs::add_right` meets its contract. Assumes nothing.
use Rattle.lean_code.specs.Needs.{add_right}
use Rattle.lean_code.proofs.CaseLaws.{in_case_3}
use borrow.Author.Rules.{rules}
use Rattle.lean_code.proofs.needs.add_right.Statement.{statement}
use Rattle.lean_code.proofs.needs.add_right.Tie as tie

pub add_right_spec : {M : Type 1} → statement M
unfolding add_right
add_right_spec =
    tie.close
    (tie.spec
    (λ c. search rules)
    (λ c. search rules)
    (λ c. search rules)
    (λ c. search rules)
    (λ c. search rules)
    (λ c. search rules)
    (λ c. search rules)
    (λ c. search rules)
    (λ c. search rules)
    (λ c. search (rules, in_case_3 add_right))
    (λ c. search (rules, in_case_3 add_right))
    (λ c. search (rules, in_case_3 add_right)))
