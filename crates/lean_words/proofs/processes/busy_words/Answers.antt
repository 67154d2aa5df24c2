-- Assumes nothing.
use Rattle.std.proofs.Common.{rules}
use Rattle.net.specs.Records.{variable_at}
use Rattle.lean_words.proofs.FilledLaws.{filled_none, filled_more}
use Rattle.lean_words.proofs.ProcessLaws.{words_busy}
use Rattle.lean_words.proofs.processes.busy_words.Goals as goal

pub loop-v-init : goal.loop-v-init
loop-v-init c = search (rules, filled_none)

pub loop-v-preserved : goal.loop-v-preserved
unfolding variable_at
loop-v-preserved c = search (rules, filled_more)

pub returns : goal.returns
returns c = search (rules, words_busy)
