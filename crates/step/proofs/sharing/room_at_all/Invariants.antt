-- Each member below address l has room.
use Rattle.std.proofs.Common.{◌≡◌, true, ltb}
use Rattle.net.specs.Choice.{all, implies}
use Rattle.net.specs.Groups.{member}
use Rattle.net.specs.Records.{address_of}
use Rattle.step.specs.Sharing.{node_in}
use Rattle.step.proofs.sharing.room_at_all.Given as goal

abbrev pub invariant-loop-l : goal.invariant-loop-l
invariant-loop-l l = true ≡ all l.l (λ i. implies (member l.g (address_of i)) (ltb (node_in l.nodes i).stored 16))
