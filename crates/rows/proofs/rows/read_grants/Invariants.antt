use Rattle.std.proofs.Common.{◌-◌}
use Rattle.lexemes.specs.Progress.{Resumes}
use Rattle.rows.specs.Rows.{grants}
use Rattle.rows.proofs.rows.read_grants.Given as goal

abbrev pub invariant-loop-i : goal.invariant-loop-i
invariant-loop-i l = Resumes l.initial.r (grants 16 0 l.initial.row) l.r (grants (16 - l.i) l.low l.row)
