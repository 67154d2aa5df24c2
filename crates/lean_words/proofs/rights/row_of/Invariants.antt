-- Assumes nothing.
use Rattle.std.proofs.Common.{◌≡◌, ◌≤◌, ◌<◌, ltb, leb, get_or, replicate, [], false, true}
use Rattle.net.specs.Records.{no_rights}
use Rattle.lean_words.specs.Filled.{filled}
use Rattle.lean_words.specs.Rights.{rights_in}
use Rattle.lean_words.proofs.rights.row_of.Given as goal

abbrev pub invariant-loop-l : goal.invariant-loop-l
invariant-loop-l l = l.row.rights ≡ filled l.l (rights_in l.flags) (replicate 16 no_rights)
