-- Assumes nothing.
use Rattle.std.proofs.Common.{rules}
use Rattle.lean.specs.Words.{slot_at, with_slot, with_word}
use Rattle.lean.proofs.OpenLaws.{create_done, create_full}
use Rattle.lean.proofs.actions.create.Goals as goal

pub returns-then-l-lt16 : goal.returns-then-l-lt16
unfolding slot_at with_slot with_word
returns-then-l-lt16 c = search (rules, create_done)

pub returns-else-l-lt16 : goal.returns-else-l-lt16
unfolding slot_at with_slot with_word
returns-else-l-lt16 c = search (rules, create_full)
