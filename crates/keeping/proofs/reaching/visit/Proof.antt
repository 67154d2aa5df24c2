-- `keeping::reaching::visit` meets its contract: the two places that the visited one leads to are met. Assumes nothing.
use Rattle.keeping.proofs.WorklistLaws.{top_fits, top_twice, first_in, second_in, next_in, next_fits, next_scaled, count_fits, visited_is}
use borrow.Author.Rules.{rules}
use Rattle.keeping.proofs.reaching.visit.Statement.{statement}
use Rattle.keeping.proofs.reaching.visit.Tie as tie

pub visit_spec : {M : Type 1} → statement M
visit_spec =
    tie.close
    (tie.spec
    (λ c. search rules)
    (λ c. search (rules, top_twice))
    (λ c. search (rules, top_fits))
    (λ c κs. search rules)
    (λ c. search rules)
    (λ c. search (rules, first_in))
    (λ c κs. search rules)
    (λ c. search (rules, next_fits))
    (λ c. search (rules, first_in))
    (λ c. search (rules, top_twice))
    (λ c. search (rules, top_fits))
    (λ c. search (rules, next_scaled))
    (λ c. search (rules, next_in))
    (λ c. search rules)
    (λ c. search second_in)
    (λ c κs. search rules)
    (λ c. search (rules, count_fits))
    (λ c. search second_in)
    (λ c. search rules)
    (λ c. search rules)
    (λ c. search (rules, visited_is)))
