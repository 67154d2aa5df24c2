use Rattle.std.proofs.Common.{◌≡◌}
use Rattle.linking.specs.Placing.{place_at, with_linked}
use Rattle.linking.proofs.places.place_code.Given as goal

abbrev pub invariant-loop-i : goal.invariant-loop-i
invariant-loop-i l = l.net ≡ with_linked (place_at l.bodies) l.table l.i l.fn.net
