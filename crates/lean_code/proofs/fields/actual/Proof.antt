-- `lean_code::fields::actual` meets its contract. Assumes nothing.
use Rattle.lean_code.specs.Fields.{actual_words}
use borrow.Author.Rules.{rules}
use Rattle.lean_code.proofs.fields.actual.Statement.{statement}
use Rattle.lean_code.proofs.fields.actual.Tie as tie

pub actual_spec : {M : Type 1} → statement M
unfolding actual_words
actual_spec =
    tie.close
    (tie.spec
    (λ c. search rules))
