-- Assumes nothing.
use Rattle.std.proofs.Common.{rules}
use Rattle.net.specs.Records.{rights_at}
use Rattle.net.proofs.FoldLaws.{fold_none, fold_more}
use Rattle.lean_words.specs.Rights.{with_flags}
use Rattle.lean_words.proofs.RightsLaws.{flags_row}
use Rattle.lean_words.proofs.rights.row_flags.Goals as goal

pub loop-l-init : goal.loop-l-init
loop-l-init c = search (rules, fold_none)

pub loop-l-preserved : goal.loop-l-preserved
unfolding with_flags rights_at
loop-l-preserved c = search (rules, fold_more)

pub returns : goal.returns
returns c = search (rules, flags_row)
