-- Assumes nothing.
use Rattle.std.proofs.Common.{◌≡◌}
use Rattle.lean.specs.Actions.{given_with, put_below}
use Rattle.lean.proofs.actions.put_at_all.Given as goal

abbrev pub invariant-loop-l : goal.invariant-loop-l
invariant-loop-l l = given_with l.stored l.tuples ≡ put_below l.l l.fn.stored l.fn.tuples l.set l.t
