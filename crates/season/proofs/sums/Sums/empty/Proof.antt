-- `season::sums::Sums::empty` meets its contract. Assumes nothing.
use Rattle.season.specs.Sums.{empty_sums}
use borrow.Author.Rules.{rules}
use Rattle.season.proofs.sums.Sums.empty.Statement.{statement}
use Rattle.season.proofs.sums.Sums.empty.Tie as tie

pub empty_spec : {M : Type 1} → statement M
unfolding empty_sums
empty_spec =
    tie.close
    (tie.spec
    (λ c κs. search rules)
    (λ c. simp c.none-tally.ensures))
