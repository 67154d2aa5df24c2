-- Assumes nothing.
use Rattle.std.proofs.Common.{◌≡◌}
use Rattle.net.specs.Choice.{fold}
use Rattle.lean_code.specs.Needs.{add_member}
use Rattle.lean_code.proofs.needs.add_members.Given as goal

abbrev pub invariant-loop-l : goal.invariant-loop-l
invariant-loop-l l = l.need ≡ fold l.l (add_member l.g) l.fn.need
