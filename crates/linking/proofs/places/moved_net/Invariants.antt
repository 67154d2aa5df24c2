use Rattle.std.proofs.Common.{◌≡◌}
use Rattle.net.specs.Choice.{fold}
use Rattle.linking.specs.Placing.{place_at, moved_address}
use Rattle.linking.proofs.places.moved_net.Given as goal

abbrev pub invariant-loop-a : goal.invariant-loop-a
invariant-loop-a l = l.net ≡ fold l.a (moved_address (place_at l.bodies) l.starts) l.fn.start
