use Rattle.net.specs.Records.{address_of}
use Rattle.bitreader.specs.Progress.{Turned}
use Rattle.image.specs.Image.{row_from}
use Rattle.image.proofs.rows.read_node_rows.Given as goal

abbrev pub invariant-loop-o : goal.invariant-loop-o
invariant-loop-o l = Turned l.initial.r l.n (λ i. row_from l.n (address_of i)) l.initial.node l.r l.o l.node
