use Rattle.fields.proofs.SetLaws.{Bits}
use Rattle.fields.proofs.sets.group_of.Given as goal

abbrev pub invariant-loop-i : goal.invariant-loop-i
invariant-loop-i l = Bits l.marks l.i l.bits
