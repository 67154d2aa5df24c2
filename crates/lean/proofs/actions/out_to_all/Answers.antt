-- Assumes nothing.
use Rattle.std.proofs.Common.{rules}
use Rattle.lean.proofs.ActionCode.{all_done, all_full}
use Rattle.lean.proofs.actions.out_to_all.Goals as goal

pub returns-then-room_at_all : goal.returns-then-room_at_all
returns-then-room_at_all c = search (rules, all_done)

pub returns-else-room_at_all : goal.returns-else-room_at_all
returns-else-room_at_all c = search (rules, all_full)
