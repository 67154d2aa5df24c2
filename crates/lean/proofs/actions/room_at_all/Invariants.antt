-- Assumes nothing.
use Rattle.std.proofs.Common.{◌≡◌, ltb, get_or, false, true}
use Rattle.net.specs.Choice.{implies, all}
use Rattle.lean.proofs.actions.room_at_all.Given as goal

abbrev pub invariant-loop-l : goal.invariant-loop-l
invariant-loop-l l = all l.l (λ i. implies (get_or l.set i false) (ltb (get_or l.stored i 0) 16)) ≡ true
