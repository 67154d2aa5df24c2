use Rattle.std.proofs.Common.{◌≡◌, map, take}
use Rattle.lines.specs.Words.{number, spaced}
use Rattle.text.specs.Writer.{after}
use Rattle.lines.proofs.words.put_numbers.Given as goal

abbrev pub invariant-loop-n : goal.invariant-loop-n
invariant-loop-n l = l.out ≡ after l.fn.out (spaced (map number (take l.n-index l.numbers)))
