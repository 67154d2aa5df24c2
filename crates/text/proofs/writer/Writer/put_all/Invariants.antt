use Rattle.std.proofs.Common.{◌≡◌, take}
use Rattle.text.specs.Writer.{after}
use Rattle.text.proofs.writer.Writer.put_all.Given as goal

abbrev pub invariant-loop-x : goal.invariant-loop-x
invariant-loop-x g l = l.self ≡ after l.fn.self (take l.x-index l.xs)
