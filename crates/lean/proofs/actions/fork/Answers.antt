-- Assumes nothing.
use Rattle.std.proofs.Common.{rules}
use Rattle.lean.specs.Words.{slot_at}
use Rattle.lean.specs.Actions.{fork_of}
use Rattle.lean.proofs.actions.fork.Goals as goal

pub returns : goal.returns
unfolding slot_at fork_of
returns c = search rules
