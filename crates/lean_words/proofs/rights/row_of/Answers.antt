-- Assumes nothing.
use Rattle.std.proofs.Common.{rules}
use Rattle.lean_words.specs.Rights.{rights_in}
use Rattle.lean_words.proofs.FilledLaws.{filled_more}
use Rattle.lean_words.proofs.RightsLaws.{rights_none, row_parts}
use Rattle.lean_words.proofs.rights.row_of.Goals as goal

pub loop-l-init : goal.loop-l-init
loop-l-init c = search (rules, rights_none)

pub loop-l-preserved : goal.loop-l-preserved
unfolding rights_in
loop-l-preserved c = search (rules, filled_more)

pub returns : goal.returns
returns c = search (rules, row_parts)
