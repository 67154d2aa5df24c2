-- `lean_words::rights::gain` meets its contract. Assumes nothing.
use Rattle.net.specs.Records.{all_rights}
use Rattle.lean_words.specs.Rights.{with_flags, gained_flags}
use borrow.Author.Rules.{rules}
use Rattle.lean_words.proofs.rights.gain.Statement.{statement}
use Rattle.lean_words.proofs.rights.gain.Tie as tie

pub gain_spec : {M : Type 1} → statement M
unfolding gained_flags with_flags all_rights
gain_spec =
    tie.close
    (tie.spec
    (λ c. search rules)
    (λ c. search rules)
    (λ c. search rules)
    (λ c. search rules)
    (λ c. search rules)
    (λ c. search rules)
    (λ c. search rules)
    (λ c. search rules))
