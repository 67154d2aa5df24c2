-- `lean_words::words::reading_of` meets its contract: an even word, and an odd one. Assumes nothing.
use Rattle.lean_words.proofs.ItemLaws.{even_reading, odd_reading, odd_fits}
use borrow.Author.Rules.{rules}
use Rattle.lean_words.proofs.words.reading_of.Statement.{statement}
use Rattle.lean_words.proofs.words.reading_of.Tie as tie

pub reading_of_spec : {M : Type 1} → statement M
reading_of_spec =
    tie.close
    (tie.spec
    (λ c κs. search rules)
    (λ c. search rules)
    (λ c. search (rules, odd_fits))
    (λ c. search (rules, even_reading))
    (λ c. search (rules, odd_reading)))
