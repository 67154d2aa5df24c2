use Rattle.std.proofs.Common.{rules}
use Rattle.net.proofs.Laws.{branches}
use Rattle.season.specs.Fractions.{considered}
use Rattle.season.proofs.fraction.consider.Goals as goal

pub returns-then-x-eq0 : goal.returns-then-x-eq0
unfolding considered
returns-then-x-eq0 c = search (rules, branches)

pub returns-else-x-eq0 : goal.returns-else-x-eq0
unfolding considered
returns-else-x-eq0 c = search (rules, branches)
