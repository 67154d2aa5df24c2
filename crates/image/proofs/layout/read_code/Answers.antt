use borrow.Author.Rules.{rules}
use Rattle.bitreader.proofs.ReadsLaws.{turning}
use Rattle.net.specs.Records.{node_at, with_node, with_instruction}
use Rattle.image.specs.Image.{code, each_place}
use Rattle.image.proofs.ImageLaws.{of_nets}
use Rattle.image.proofs.layout.read_code.Goals as goal

pub loop-p-init : goal.loop-p-init
loop-p-init c = search (rules, turning)

pub loop-p-preserved : goal.loop-p-preserved
unfolding node_at with_node with_instruction
loop-p-preserved c = search (rules, turning, of_nets)

pub returns-in_err-net-clause-reads : goal.returns-in_err-net-clause-reads
unfolding code each_place node_at
returns-in_err-net-clause-reads c = search (rules, turning, of_nets)

pub returns-clause-reads : goal.returns-clause-reads
unfolding code each_place
returns-clause-reads c = search (rules, turning)
