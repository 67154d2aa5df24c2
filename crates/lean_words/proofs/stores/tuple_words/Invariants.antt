-- Assumes nothing.
use Rattle.std.proofs.Common.{◌≡◌, ◌≤◌, ◌<◌, ltb, leb, get_or, replicate, [], false, true}
use Rattle.net.specs.Records.{field_at}
use Rattle.lean_words.specs.Filled.{filled}
use Rattle.lean_words.specs.Items.{item_word}
use Rattle.lean_words.proofs.stores.tuple_words.Given as goal

abbrev pub invariant-loop-i : goal.invariant-loop-i
invariant-loop-i l = l.words ≡ filled l.i (λ j. item_word (field_at l.fn.t j)) (replicate 6 0)
