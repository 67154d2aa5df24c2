-- `lean_words::processes::free_words` meets its contract. Assumes nothing.
use Rattle.lean_words.specs.Processes.{free_words}
use borrow.Author.Rules.{rules}
use Rattle.lean_words.proofs.processes.free_words.Statement.{statement}
use Rattle.lean_words.proofs.processes.free_words.Tie as tie

pub free_words_spec : {M : Type 1} → statement M
unfolding free_words
free_words_spec =
    tie.close
    (tie.spec
    (λ c. search rules)
    (λ c. search rules)
    (λ c. search rules))
