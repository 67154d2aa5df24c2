use Rattle.std.proofs.Common.{rules, ◌∙◌, ap, sym, refl, ◌≡◌, ◌<◌, ℕ, List, [], ◌∷◌, ◌++◌, arith, length, Bool, true, false}
use Rattle.text.specs.Writer.{after}
use Rattle.season.proofs.FigureLaws.{copied, not_copied}
use Rattle.season.proofs.figures.copy_figures.Goals as goal

pub returns-then-n-out : goal.returns-then-n-out
returns-then-n-out c =
    not_copied c.args.text.now _ c.args.out.now c.if-n-out.true

pub returns : goal.returns
unfolding after
returns c =
    copied c.args.text.now c.args.out.now _ c.if-n-out.false (search rules)
