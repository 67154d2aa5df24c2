-- Assumes nothing.
use Rattle.std.proofs.Common.{rules}
use Rattle.lean_words.proofs.FilledLaws.{filled_none, filled_more, filled_end}
use Rattle.lean_code.specs.Heads.{member_flags}
use Rattle.lean_code.proofs.heads.members.Goals as goal

pub loop-l-init : goal.loop-l-init
loop-l-init c = search (rules, filled_none)

pub loop-l-preserved : goal.loop-l-preserved
loop-l-preserved c = search (rules, filled_more)

pub returns : goal.returns
unfolding member_flags
returns c = search (rules, filled_end)
