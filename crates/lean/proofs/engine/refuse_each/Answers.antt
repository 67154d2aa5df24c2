-- Assumes nothing.
use Rattle.std.proofs.Common.{rules}
use Rattle.lean.proofs.EngineLaws.{refusing_begin, refusing_turn, refusing_end}
use Rattle.lean.proofs.engine.refuse_each.Goals as goal

pub loop-i-init : goal.loop-i-init
loop-i-init c = search (rules, refusing_begin)

pub loop-i-preserved : goal.loop-i-preserved
loop-i-preserved c = search (rules, refusing_turn)

pub returns : goal.returns
returns c = search (rules, refusing_end)
