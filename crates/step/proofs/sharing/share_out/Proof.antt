-- `step::sharing::share_out` meets its contract. Assumes nothing.
use Rattle.step.specs.Sharing.{node_in}
use Rattle.net.proofs.Laws.{if_call, if_not_call}
use Rattle.step.proofs.SharingLaws.{share_as}
use borrow.Author.Rules.{rules}
use Rattle.step.proofs.sharing.share_out.Statement.{statement}
use Rattle.step.proofs.sharing.share_out.Tie as tie

pub share_out_spec : {M : Type 1} → statement M
unfolding node_in
share_out_spec =
    tie.close
    (tie.spec
    (λ c κs. search rules)
    (λ c. search rules)
    (λ c κs. search rules)
    (λ c. search rules)
    (λ c. search rules)
    (λ c κs. search rules)
    (λ c κs. search rules)
    (λ c κs. search rules)
    (λ c. search (rules, share_as, if_call))
    (λ c. search (rules, share_as, if_not_call)))
