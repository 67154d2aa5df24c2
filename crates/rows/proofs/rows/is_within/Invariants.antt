use Rattle.std.proofs.Common.{◌≡◌, true}
use Rattle.rows.proofs.RuledLaws.{none_below}
use Rattle.rows.proofs.rows.is_within.Given as goal

abbrev pub invariant-loop-l : goal.invariant-loop-l
invariant-loop-l l = none_below l.n l.row l.l ≡ true
