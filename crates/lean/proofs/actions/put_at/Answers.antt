-- Assumes nothing.
use Rattle.std.proofs.Common.{rules}
use Rattle.lean.proofs.ActionCode.{put_member, put_other}
use Rattle.lean.proofs.actions.put_at.Goals as goal

pub returns-then-member : goal.returns-then-member
returns-then-member c = search (rules, put_member)

pub returns-else-member : goal.returns-else-member
returns-else-member c = search (rules, put_other)
