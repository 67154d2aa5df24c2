-- Assumes nothing.
use Rattle.std.proofs.Common.{rules}
use borrow.Author.Tests.{le-leb, lt-leb}
use Rattle.net.proofs.FirstLaws.{first_start, first_again, first_here, first_none}
use Rattle.lean_words.specs.Processes.{free_slot_in}
use Rattle.lean_words.proofs.processes.free_slot.Goals as goal

pub loop-k-init : goal.loop-k-init
loop-k-init c = search (rules, first_start)

pub returns-then-slots-k-ge512 : goal.returns-then-slots-k-ge512
unfolding free_slot_in
returns-then-slots-k-ge512 c = search (rules, first_here, le-leb)

pub loop-k-preserved : goal.loop-k-preserved
loop-k-preserved c = search (rules, first_again, lt-leb)

pub returns : goal.returns
unfolding free_slot_in
returns c = search (rules, first_none)
