-- `season::sums::Tally::none` meets its contract. Assumes nothing.
use Rattle.season.specs.Sums.{no_tally}
use borrow.Author.Rules.{rules}
use Rattle.season.proofs.sums.Tally.none.Statement.{statement}
use Rattle.season.proofs.sums.Tally.none.Tie as tie

pub none_spec : {M : Type 1} → statement M
unfolding no_tally
none_spec =
    tie.close
    (tie.spec
    (λ c. search rules))
