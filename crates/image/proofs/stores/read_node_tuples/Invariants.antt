use Rattle.bitreader.specs.Progress.{Turned}
use Rattle.image.specs.Image.{stored}
use Rattle.image.proofs.stores.read_node_tuples.Given as goal

abbrev pub invariant-loop-i : goal.invariant-loop-i
invariant-loop-i l = Turned l.initial.r l.count (stored l.a l.n) l.initial.node l.r l.i l.node
