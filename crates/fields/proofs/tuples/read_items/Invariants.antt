use Rattle.std.proofs.Common.{◌-◌}
use Rattle.net.specs.Records.{zero_tuple}
use Rattle.lexemes.specs.Progress.{Resumes}
use Rattle.fields.specs.Fields.{tupleField, fields}
use Rattle.fields.proofs.tuples.read_items.Given as goal

abbrev pub invariant-loop-i : goal.invariant-loop-i
invariant-loop-i l = Resumes l.initial.r (fields 4 (tupleField l.n) zero_tuple) l.r (fields (4 - l.i) (tupleField l.n) l.t)
