use Rattle.bitreader.specs.Progress.{Number}
use Rattle.bitreader.proofs.bits.number.Given as goal

abbrev pub invariant-loop-i : goal.invariant-loop-i
invariant-loop-i l = Number l.s l.p l.i l.v
