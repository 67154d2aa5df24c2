use Rattle.rows.specs.Progress.{Ruling}
use Rattle.rows.proofs.rows.gather_rows.Given as goal

abbrev pub invariant-loop-n : goal.invariant-loop-n
invariant-loop-n l = Ruling l.initial.r l.r l.n l.net
