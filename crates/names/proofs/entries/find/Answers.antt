use Rattle.std.proofs.Common.{rules}
use Rattle.names.proofs.EntryLaws.{left_all, found_again, found_here, found_none}
use Rattle.names.proofs.entries.find.Goals as goal

pub loop-at-init : goal.loop-at-init
loop-at-init c = search (rules, left_all)

pub returns-then-list-at : goal.returns-then-list-at
returns-then-list-at c = search (rules, found_here)

pub loop-at-preserved : goal.loop-at-preserved
loop-at-preserved c = search (rules, found_again)

pub returns : goal.returns
returns c = search (rules, found_none)
