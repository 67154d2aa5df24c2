use Rattle.bitreader.specs.Progress.{Turned}
use Rattle.image.specs.Image.{entry}
use Rattle.image.proofs.entries.read_node_entries.Given as goal

abbrev pub invariant-loop-slot : goal.invariant-loop-slot
invariant-loop-slot l = Turned l.initial.r l.count (entry l.net.length l.net.code l.a l.node) tt l.r l.slot tt
