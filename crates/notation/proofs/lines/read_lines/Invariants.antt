use Rattle.std.proofs.Common.{◌≤◌}
use Rattle.processes.specs.Room.{room}
use Rattle.notation.specs.LineProgress.{Lining}
use Rattle.notation.proofs.lines.read_lines.Given as goal

abbrev pub invariant-loop-i : goal.invariant-loop-i
invariant-loop-i l = record { lined : Lining l.scope l.initial.r l.initial.lines l.r l.i l.lines; small : l.lines.code.count ≤ room }
