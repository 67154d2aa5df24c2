-- `lean_words::stores::no_tuple` meets its contract. Assumes nothing.
use Rattle.lean_words.specs.Stores.{no_tuple}
use borrow.Author.Rules.{rules}
use Rattle.lean_words.proofs.stores.no_tuple.Statement.{statement}
use Rattle.lean_words.proofs.stores.no_tuple.Tie as tie

pub no_tuple_spec : {M : Type 1} → statement M
unfolding no_tuple
no_tuple_spec =
    tie.close
    (tie.spec
    (λ c. search rules))
