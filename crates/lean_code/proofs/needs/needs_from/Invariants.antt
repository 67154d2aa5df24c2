-- Assumes nothing.
use Rattle.std.proofs.Common.{◌≡◌, replicate, false}
use Rattle.net.specs.Choice.{fold}
use Rattle.lean_code.specs.Needs.{add_reached}
use Rattle.lean_code.proofs.needs.needs_from.Given as goal

abbrev pub invariant-loop-q : goal.invariant-loop-q
invariant-loop-q l = l.need ≡ fold l.q (add_reached l.code l.marks) (replicate 69 false)
