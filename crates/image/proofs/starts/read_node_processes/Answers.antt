use borrow.Author.Rules.{rules}
use Rattle.bitreader.proofs.ReadsLaws.{reading, turning}
use Rattle.image.specs.Image.{processes}
use Rattle.image.proofs.ImageLaws.{turns}
use Rattle.image.proofs.starts.read_node_processes.Goals as goal

pub returns-in_err-count : goal.returns-in_err-count
unfolding processes
returns-in_err-count c = search (rules, reading, turns)

pub loop-slot-init : goal.loop-slot-init
loop-slot-init c = search (rules, turning)

pub loop-slot-preserved : goal.loop-slot-preserved
loop-slot-preserved c = search (rules, turning, turns)

pub returns-in_err-at : goal.returns-in_err-at
unfolding processes
returns-in_err-at c = search (rules, reading, turning, turns)

pub returns : goal.returns
unfolding processes
returns c = search (rules, reading, turning)
