-- The formals below i are bound.
use Rattle.std.proofs.Common.{◌≡◌, ltb}
use Rattle.net.specs.Choice.{choose, fold}
use Rattle.net.specs.Records.{field_at}
use Rattle.matching.specs.Matching.{bound_field, want_at}
use Rattle.matching.proofs.template.bound.Given as goal

abbrev pub invariant-loop-i : goal.invariant-loop-i
invariant-loop-i l = l.q ≡ fold l.i (λ j q. choose (ltb j l.e.count) (bound_field q (field_at l.t j) (want_at l.e j)) q) l.fn.p
