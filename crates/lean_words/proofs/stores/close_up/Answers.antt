-- Assumes nothing.
use Rattle.std.proofs.Common.{rules}
use Rattle.lean_words.proofs.StoreLaws.{closing_none, closing_more, closing_end}
use Rattle.lean_words.proofs.stores.close_up.Goals as goal

pub loop-j-init : goal.loop-j-init
loop-j-init c = search (rules, closing_none)

pub loop-j-preserved : goal.loop-j-preserved
loop-j-preserved c = search (rules, closing_more)

pub returns : goal.returns
returns c = search (rules, closing_end)
