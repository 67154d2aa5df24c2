use Rattle.std.proofs.Common.{◌≡◌, true}
use Rattle.net.specs.Choice.{all}
use Rattle.linking.specs.NameTable.{name_right_in}
use Rattle.linking.proofs.names.names_right.Given as goal

abbrev pub invariant-loop-k : goal.invariant-loop-k
invariant-loop-k l = all l.k (name_right_in l.bodies l.defs l.uses) ≡ true
