-- Assumes nothing.
use Rattle.std.proofs.Common.{rules}
use Rattle.lean.specs.Words.{slot_at, with_slot, with_word}
use Rattle.lean.proofs.actions.move_on.Goals as goal

pub returns : goal.returns
unfolding slot_at with_slot with_word
returns c = search rules
