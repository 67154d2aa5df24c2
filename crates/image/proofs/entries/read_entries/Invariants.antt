use Rattle.net.specs.Records.{address_of}
use Rattle.bitreader.specs.Progress.{Turned}
use Rattle.image.specs.Image.{entries_of}
use Rattle.image.proofs.entries.read_entries.Given as goal

abbrev pub invariant-loop-a : goal.invariant-loop-a
invariant-loop-a l = Turned l.initial.r l.a-end (λ i. entries_of l.net (address_of i)) tt l.r l.a tt
