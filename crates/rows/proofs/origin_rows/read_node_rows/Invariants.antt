use Rattle.rows.specs.Progress.{NodeRowing}
use Rattle.rows.proofs.origin_rows.read_node_rows.Given as goal

abbrev pub invariant-loop-j : goal.invariant-loop-j
invariant-loop-j l = NodeRowing l.n l.i l.initial.r l.r l.j l.rows
