-- `lean_code::fields::word_from` meets its contract. Assumes nothing.
use Rattle.net.proofs.Laws.{branches}
use Rattle.lean_code.specs.Fields.{word_from}
use borrow.Author.Rules.{rules}
use Rattle.lean_code.proofs.fields.word_from.Statement.{statement}
use Rattle.lean_code.proofs.fields.word_from.Tie as tie

pub word_from_spec : {M : Type 1} → statement M
unfolding word_from
word_from_spec =
    tie.close
    (tie.spec
    (λ c. search rules)
    (λ c. search rules)
    (λ c. search (rules, branches))
    (λ c. search (rules, branches))
    (λ c. search (rules, branches)))
