-- Assumes nothing.
use Rattle.std.proofs.Common.{◌≤◌, length}
use Rattle.lean.proofs.EngineLaws.{Refusing}
use Rattle.lean.proofs.engine.refuse_each.Given as goal

abbrev pub invariant-loop-i : goal.invariant-loop-i
invariant-loop-i l = Refusing l.picks l.fn.answers l.i l.answers × (length l.picks ≤ length l.fn.answers)
