-- Assumes nothing.
use Rattle.std.proofs.Common.{◌≡◌, ◌≤◌, ◌<◌, ltb, leb, get_or, replicate, [], false, true}
use Rattle.net.specs.Records.{zero_field}
use Rattle.lean_words.specs.Filled.{filled}
use Rattle.lean_words.specs.Stores.{field_in}
use Rattle.lean_words.proofs.stores.tuple_of.Given as goal

abbrev pub invariant-loop-i : goal.invariant-loop-i
invariant-loop-i l = l.t.fields ≡ filled l.i (field_in l.words) (replicate 4 zero_field)
