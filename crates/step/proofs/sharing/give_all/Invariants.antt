-- The members below address l have the tuple.
use Rattle.std.proofs.Common.{◌≡◌}
use Rattle.step.specs.Sharing.{given_below}
use Rattle.step.proofs.sharing.give_all.Given as goal

abbrev pub invariant-loop-l : goal.invariant-loop-l
invariant-loop-l l = l.nodes ≡ given_below l.l l.fn.nodes l.g l.t
