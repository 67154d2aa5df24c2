use Rattle.std.proofs.Common.{rules}
use Rattle.net.specs.Records.{free_slot, process_at}
use Rattle.net.proofs.FirstLaws.{first_start, first_again, first_here, first_none}
use Rattle.net.proofs.node.Node.free_slot.Goals as goal

pub loop-j-init : goal.loop-j-init
loop-j-init c = search (rules, first_start)

pub loop-j-preserved : goal.loop-j-preserved
unfolding process_at
loop-j-preserved c = search (rules, first_again)

pub returns-then-not-p : goal.returns-then-not-p
unfolding free_slot process_at
returns-then-not-p c = search (rules, first_here)

pub returns : goal.returns
unfolding free_slot process_at
returns c = search (rules, first_none)
