-- Assumes nothing.
use Rattle.std.proofs.Common.{◌≡◌, ◌≤◌, ◌<◌, ltb, leb, get_or, replicate, [], false, true}
use Rattle.net.specs.Records.{variable_at}
use Rattle.lean_words.specs.Filled.{filled}
use Rattle.lean_words.specs.Items.{value_word}
use Rattle.lean_words.proofs.processes.busy_words.Given as goal

abbrev pub invariant-loop-v : goal.invariant-loop-v
invariant-loop-v l = l.words ≡ filled l.v (λ i. value_word (variable_at l.fn.p i)) (replicate 16 0)
