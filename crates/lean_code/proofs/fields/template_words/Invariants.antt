-- Assumes nothing.
use Rattle.std.proofs.Common.{◌≡◌, replicate}
use Rattle.net.specs.Records.{pattern_at}
use Rattle.lean_words.specs.Filled.{filled}
use Rattle.lean_code.specs.Fields.{field_words}
use Rattle.lean_code.proofs.fields.template_words.Given as goal

abbrev pub invariant-loop-i : goal.invariant-loop-i
invariant-loop-i l = l.words ≡ filled l.i (λ j. field_words (pattern_at l.fn.c j)) (replicate 4 (replicate 4 0))
