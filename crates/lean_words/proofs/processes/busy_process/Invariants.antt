-- Assumes nothing.
use Rattle.lean_words.proofs.ProcessLaws.{Setting}
use Rattle.lean_words.proofs.processes.busy_process.Given as goal

abbrev pub invariant-loop-v : goal.invariant-loop-v
invariant-loop-v l = Setting l.words l.p l.v
