use Rattle.std.proofs.Common.{List}
use Rattle.rows.specs.Types.{Row}
use Rattle.rows.specs.Progress.{First, NodesRuling}
use Rattle.rows.proofs.origin_rows.gather_nodes.Given as goal

abbrev pub invariant-loop-i : goal.invariant-loop-i
invariant-loop-i l = (rs : List Row) → First rs l.first → NodesRuling l.first.count rs l.initial.r l.r l.i l.net
