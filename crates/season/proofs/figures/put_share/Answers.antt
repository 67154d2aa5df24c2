use Rattle.std.proofs.Common.{rules, ◌∙◌, ap, sym, refl, ◌≡◌, ◌<◌, ℕ, List, [], ◌∷◌, ◌++◌, arith, length, Bool, true, false}
use Rattle.season.proofs.FigureLaws.{share_none, share_some}
use Rattle.season.proofs.figures.put_share.Goals as goal

pub returns-then-picks-eq0 : goal.returns-then-picks-eq0
returns-then-picks-eq0 c =
    share_none _ _ _ _ c.if-picks-eq0.true c.put_none.ensures

pub returns-else-picks-eq0 : goal.returns-else-picks-eq0
returns-else-picks-eq0 c =
    share_some _ _ _ _ c.if-picks-eq0.false (rw c.lowest.ensures at c.put_fraction.ensures)
