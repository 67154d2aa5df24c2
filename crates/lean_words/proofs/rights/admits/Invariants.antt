-- Assumes nothing.
use Rattle.std.proofs.Common.{◌≡◌, ◌≤◌, ◌<◌, ltb, leb, get_or, replicate, [], false, true}
use Rattle.net.specs.Choice.{all}
use Rattle.lean_words.specs.Rights.{rights_in, covered}
use Rattle.lean_words.proofs.rights.admits.Given as goal

abbrev pub invariant-loop-m : goal.invariant-loop-m
invariant-loop-m l = l.ok ≡ all l.m (λ j. covered (rights_in l.need j) (rights_in l.row j))
