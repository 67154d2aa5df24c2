-- `season::counts::add_cut` meets its contract. Assumes nothing.
use Rattle.season.specs.Sums.{plus}
use Rattle.season.proofs.AddLaws.{cut_sum}
use borrow.Author.Rules.{rules}
use Rattle.season.proofs.counts.add_cut.Statement.{statement}
use Rattle.season.proofs.counts.add_cut.Tie as tie

pub add_cut_spec : {M : Type 1} → statement M
unfolding plus
add_cut_spec =
    tie.close
    (tie.spec
    (λ c. search rules)
    (λ c. search rules)
    (λ c. search (rules, cut_sum)))
