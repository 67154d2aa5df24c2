use Rattle.std.proofs.Common.{rules, ◌∙◌, ap, sym, refl, ◌≡◌, ◌<◌, ℕ, List, [], ◌∷◌, ◌++◌, arith, length, Bool, true, false}
use Rattle.season.proofs.FigureLaws.{gave_none, gave_many, gave_figures}
use Rattle.season.proofs.figures.give_figures.Goals as goal

pub returns-then-sums-eq0 : goal.returns-then-sums-eq0
returns-then-sums-eq0 c =
    gave_none c.args.sums _ _ c.if-sums-eq0.true refl

pub returns-then-sums-gt1000 : goal.returns-then-sums-gt1000
returns-then-sums-gt1000 c =
    gave_many c.args.sums _ _ c.if-sums-eq0.false c.if-sums-gt1000.true refl

pub returns-else-sums-gt1000 : goal.returns-else-sums-gt1000
returns-else-sums-gt1000 c =
    gave_figures c.args.sums _ _ _ c.if-sums-eq0.false c.if-sums-gt1000.false c.write_figures.ensures
