use Rattle.net.specs.Records.{zero_tuple}
use Rattle.bitreader.specs.Progress.{Turned}
use Rattle.image.specs.Image.{tupleField}
use Rattle.image.proofs.stores.read_tuple.Given as goal

abbrev pub invariant-loop-i : goal.invariant-loop-i
invariant-loop-i l = Turned l.initial.r l.i-end (tupleField l.n) zero_tuple l.r l.i l.tuple
