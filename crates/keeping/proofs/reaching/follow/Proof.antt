-- `keeping::reaching::follow` meets its contract. Assumes nothing.
use Rattle.keeping.proofs.WorklistLaws.{leading}
use Rattle.keeping.specs.Reaching.{followers}
use borrow.Author.Rules.{rules}
use Rattle.keeping.proofs.reaching.follow.Statement.{statement}
use Rattle.keeping.proofs.reaching.follow.Tie as tie

pub follow_spec : {M : Type 1} → statement M
unfolding followers
follow_spec =
    tie.close
    (tie.spec
    (λ c. search rules)
    (λ c κs. search rules)
    (λ c. search rules)
    (λ c κs. search rules)
    (λ c. search rules)
    (λ c κs. search rules)
    (λ c. search rules)
    (λ c κs. search rules)
    (λ c. search rules)
    (λ c κs. search rules)
    (λ c. search rules)
    (λ c κs. search rules)
    (λ c. search rules)
    (λ c κs. search rules)
    (λ c. search rules)
    (λ c κs. search rules)
    (λ c. search (rules, leading))
    (λ c. search (rules, leading))
    (λ c. search (rules, leading))
    (λ c. search (rules, leading))
    (λ c. search (rules, leading))
    (λ c. search (rules, leading))
    (λ c. search (rules, leading))
    (λ c. search (rules, leading)))
