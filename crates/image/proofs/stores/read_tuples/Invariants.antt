use Rattle.net.specs.Records.{address_of}
use Rattle.bitreader.specs.Progress.{Turned}
use Rattle.image.specs.Image.{tuples_of}
use Rattle.image.specs.Progress.{Counted}
use Rattle.image.proofs.stores.read_tuples.Given as goal

abbrev pub invariant-loop-a : goal.invariant-loop-a
invariant-loop-a l = Turned l.initial.r l.a-end (λ i. tuples_of (address_of i)) l.initial.net l.r l.a l.net × Counted l.initial.net l.net
