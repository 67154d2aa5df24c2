use Rattle.bitreader.specs.Progress.{Turned}
use Rattle.image.specs.Image.{process}
use Rattle.image.proofs.starts.read_node_processes.Given as goal

abbrev pub invariant-loop-slot : goal.invariant-loop-slot
invariant-loop-slot l = Turned l.initial.r l.count (process l.a l.k) l.initial.node l.r l.slot l.node
