use Rattle.std.proofs.Common.{rules}
use Rattle.net.proofs.Laws.{branches}
use Rattle.listing.specs.Comparing.{ended_from}
use Rattle.listing.proofs.comparing.ended.Goals as goal

pub returns-then-at-theirs : goal.returns-then-at-theirs
unfolding ended_from
returns-then-at-theirs c = search (rules, branches)

pub returns-else-at-theirs : goal.returns-else-at-theirs
unfolding ended_from
returns-else-at-theirs c = search (rules, branches)
