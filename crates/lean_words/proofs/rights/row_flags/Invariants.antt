-- Assumes nothing.
use Rattle.std.proofs.Common.{◌≡◌, ◌≤◌, ◌<◌, ltb, leb, get_or, replicate, [], false, true}
use Rattle.net.specs.Choice.{fold}
use Rattle.net.specs.Records.{rights_at, address_of}
use Rattle.lean_words.specs.Rights.{with_flags}
use Rattle.lean_words.proofs.rights.row_flags.Given as goal

abbrev pub invariant-loop-l : goal.invariant-loop-l
invariant-loop-l l = l.flags ≡ fold l.l (λ m fs. with_flags fs m (rights_at l.fn.row (address_of m))) (replicate 65 false)
