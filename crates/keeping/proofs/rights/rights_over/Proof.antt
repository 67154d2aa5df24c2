-- `keeping::rights::rights_over` meets its contract. Assumes nothing.
use Rattle.net.specs.Records.{rights_at}
use mathlib.Core.Path.{refl}
use Rattle.keeping.proofs.KeepingLaws.{rights_past}
use Rattle.net.proofs.Laws.{length_mapped}
use borrow.Author.Rules.{rules}
use Rattle.keeping.proofs.rights.rights_over.Statement.{statement}
use Rattle.keeping.proofs.rights.rights_over.Tie as tie

pub rights_over_spec : {M : Type 1} → statement M
unfolding rights_at
rights_over_spec =
    tie.close
    (tie.spec
    (λ c. search rules)
    (λ c. search rules)
    (λ c. search rules)
    (λ c κs. search rules)
    (λ c. refl)
    (λ c. search (rules, rights_past, length_mapped)))
