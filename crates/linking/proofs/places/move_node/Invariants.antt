use Rattle.std.proofs.Common.{◌≡◌}
use Rattle.net.specs.Choice.{fold}
use Rattle.linking.specs.Placing.{place_at, moved_slot}
use Rattle.linking.proofs.places.move_node.Given as goal

abbrev pub invariant-loop-j : goal.invariant-loop-j
invariant-loop-j l = l.node ≡ fold l.j (moved_slot (place_at l.bodies) l.starts l.a) l.fn.node
