-- Assumes nothing.
use Rattle.std.proofs.Common.{rules}
use Rattle.lean.specs.Words.{with_slot}
use Rattle.lean.proofs.StartLaws.{stop_is}
use Rattle.lean.proofs.actions.stop.Goals as goal

pub returns : goal.returns
unfolding with_slot
returns c = search (rules, stop_is)
