-- Assumes nothing.
use Rattle.std.proofs.Common.{rules}
use Rattle.lean_words.proofs.ProcessLaws.{setting_none, setting_more, setting_all}
use Rattle.lean_words.proofs.processes.busy_process.Goals as goal

pub loop-v-init : goal.loop-v-init
loop-v-init c = search (rules, setting_none)

pub loop-v-preserved : goal.loop-v-preserved
loop-v-preserved c = search (rules, setting_more)

pub returns : goal.returns
returns c = search (rules, setting_all)
