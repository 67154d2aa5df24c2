use borrow.Author.Rules.{rules}
use Rattle.bitreader.proofs.ReadsLaws.{reading, turning}
use Rattle.image.specs.Image.{tuples}
use Rattle.image.proofs.ImageLaws.{turns}
use Rattle.image.proofs.stores.read_node_tuples.Goals as goal

pub returns-in_err-count : goal.returns-in_err-count
unfolding tuples
returns-in_err-count c = search (rules, reading, turns)

pub loop-i-init : goal.loop-i-init
loop-i-init c = search (rules, turning)

pub loop-i-preserved : goal.loop-i-preserved
loop-i-preserved c = search (rules, turning, turns)

pub returns-in_err-tuple : goal.returns-in_err-tuple
unfolding tuples
returns-in_err-tuple c = search (rules, reading, turning, turns)

pub returns : goal.returns
unfolding tuples
returns c = search (rules, reading, turning)
