use borrow.Author.Rules.{rules}
use Rattle.bitreader.proofs.ReadsLaws.{turning}
use Rattle.net.specs.Records.{node_at, with_node, with_instruction}
use Rattle.image.specs.Image.{all_tuples, each_address}
use Rattle.image.proofs.ImageLaws.{of_nets}
use Rattle.image.proofs.stores.read_tuples.Goals as goal

pub loop-a-init : goal.loop-a-init
loop-a-init c = search (rules, turning)

pub loop-a-preserved : goal.loop-a-preserved
unfolding node_at with_node with_instruction
loop-a-preserved c = search (rules, turning, of_nets)

pub returns-in_err-read_node_tuples-clause-reads : goal.returns-in_err-read_node_tuples-clause-reads
unfolding all_tuples each_address node_at
returns-in_err-read_node_tuples-clause-reads c = search (rules, turning, of_nets)

pub returns-clause-reads : goal.returns-clause-reads
unfolding all_tuples each_address
returns-clause-reads c = search (rules, turning)
