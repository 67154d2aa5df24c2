-- `lean_words::stores::fits` meets its contract: the count, and four ranges. Assumes nothing.
use Rattle.lean_words.specs.Stores.{fits_words, within}
use Rattle.lean_words.proofs.StoreLaws.{range_is, four}
use borrow.Author.Rules.{rules}
use Rattle.lean_words.proofs.stores.fits.Statement.{statement}
use Rattle.lean_words.proofs.stores.fits.Tie as tie

pub fits_spec : {M : Type 1} → statement M
unfolding fits_words within
fits_spec =
    tie.close
    (tie.spec
    (λ c. search rules)
    (λ c. search rules)
    (λ c. search rules)
    (λ c. search rules)
    (λ c. search rules)
    (λ c. search rules)
    (λ c. search rules)
    (λ c. search rules)
    (λ c. search rules)
    (λ c. search rules)
    (λ c. search rules)
    (λ c. search rules)
    (λ c. search rules)
    (λ c. search rules)
    (λ c. search rules)
    (λ c. search rules)
    (λ c. search rules)
    (λ c. search rules)
    (λ c. search (rules, four, range_is)))
