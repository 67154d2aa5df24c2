-- Assumes nothing.
use Rattle.std.proofs.Common.{◌≡◌, replicate, false}
use Rattle.net.specs.Records.{address_of}
use Rattle.net.specs.Groups.{member}
use Rattle.lean_words.specs.Filled.{filled}
use Rattle.lean_code.proofs.heads.members.Given as goal

abbrev pub invariant-loop-l : goal.invariant-loop-l
invariant-loop-l l = l.flags ≡ filled l.l (λ i. member l.g (address_of i)) (replicate 16 false)
