use Rattle.std.proofs.Common.{◌≡◌, ◌*◌, ◌≤◌}
use Rattle.lines.specs.Lines.{tuples_below}
use Rattle.lines.proofs.lines.tuple_count.Given as goal

abbrev pub invariant-loop-i : goal.invariant-loop-i
invariant-loop-i l = (l.count ≡ tuples_below l.net l.i) × (l.count ≤ 16 * l.i)
