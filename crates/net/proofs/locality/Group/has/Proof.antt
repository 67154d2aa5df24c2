-- `net::locality::Group::has` meets its contract: the bit of the address. Assumes nothing.
use Rattle.net.proofs.GroupLaws.{has_in, has_out}
use borrow.Author.Rules.{rules}
use Rattle.net.proofs.locality.Group.has.Statement.{statement}
use Rattle.net.proofs.locality.Group.has.Tie as tie

pub has_spec : {M : Type 1} → statement M
has_spec =
    tie.close
    (tie.spec
    (λ c. search rules)
    (λ c. search rules)
    (λ c. search rules)
    (λ c. search rules)
    (λ c. search (rules, has_in))
    (λ c. search (rules, has_out)))
