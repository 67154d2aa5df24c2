-- `lean_words::stores::put_words` meets its contract. Assumes nothing.
use Rattle.lean_words.specs.Stores.{put_words}
use borrow.Author.Rules.{rules}
use Rattle.lean_words.proofs.stores.put_words.Statement.{statement}
use Rattle.lean_words.proofs.stores.put_words.Tie as tie

pub put_words_spec : {M : Type 1} → statement M
unfolding put_words
put_words_spec =
    tie.close
    (tie.spec
    (λ c. search rules)
    (λ c. search rules)
    (λ c. search rules)
    (λ c. search rules)
    (λ c. search rules)
    (λ c. search rules))
