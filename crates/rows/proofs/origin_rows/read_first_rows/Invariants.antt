use Rattle.rows.specs.Progress.{FirstRowing}
use Rattle.rows.proofs.origin_rows.read_first_rows.Given as goal

abbrev pub invariant-loop-n : goal.invariant-loop-n
invariant-loop-n l = FirstRowing l.fn.r l.r l.n l.rows
