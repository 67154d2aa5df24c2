use Rattle.std.proofs.Common.{rules}
use Rattle.net.proofs.Laws.{branches}
use Rattle.listing.proofs.comparing.line_after.Goals as goal

pub returns-then-b-eq10 : goal.returns-then-b-eq10
returns-then-b-eq10 c = search (rules, branches)

pub returns-else-b-eq10 : goal.returns-else-b-eq10
returns-else-b-eq10 c = search (rules, branches)
