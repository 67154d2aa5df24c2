-- `season::sums::Sums::figures` meets its contract. Assumes nothing.
use Rattle.season.proofs.FigureLaws.{number_as}
use borrow.Author.Rules.{rules}
use Rattle.season.proofs.sums.Sums.figures.Statement.{statement}
use Rattle.season.proofs.sums.Sums.figures.Tie as tie

pub figures_spec : {M : Type 1} → statement M
figures_spec =
    tie.close
    (tie.spec
    (λ c κs. search rules)
    (λ c. search rules)
    (λ c. (search rules, (search (rules, number_as), search rules))))
