-- Assumes nothing.
use Rattle.std.proofs.Common.{rules}
use Rattle.lean.proofs.RoundLaws.{making_begin, making_turn, making_end}
use Rattle.lean.proofs.rounds.make_each.Goals as goal

pub loop-i-init : goal.loop-i-init
loop-i-init c = search (rules, making_begin)

pub loop-i-preserved : goal.loop-i-preserved
loop-i-preserved c = search (rules, making_turn)

pub returns : goal.returns
returns c = search (rules, making_end)
