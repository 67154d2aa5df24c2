-- Assumes nothing.
use Rattle.std.proofs.Common.{rules}
use Rattle.lean.specs.Words.{slot_at, with_slot, with_word}
use Rattle.lean.specs.Actions.{copy_of, start_in}
use Rattle.lean.proofs.StartLaws.{start_done, start_full}
use Rattle.lean.proofs.actions.start.Goals as goal

pub returns-then-slot-lt4 : goal.returns-then-slot-lt4
unfolding slot_at with_slot with_word copy_of start_in
returns-then-slot-lt4 c = search (rules, start_done)

pub returns-else-slot-lt4 : goal.returns-else-slot-lt4
unfolding slot_at with_slot with_word copy_of start_in
returns-else-slot-lt4 c = search (rules, start_full)
