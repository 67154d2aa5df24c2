-- Describes the code, and is no part of what a reader has to believe: an out to a set (document 02, slip 11), which concerns many
-- nodes, made on all nodes of the net. In what follows xs are these nodes and t is its turn. `proofs/SharingLaws.antt` shows that
-- this is `step_of` of `Pick.antt`.
pub use Rattle.step.specs.declared.sharing.Shared.{Shared}
use Rattle.std.specs.Prelude.{ℕ, Bool, List, [], ltb, get_or, set}
use Rattle.net.specs.Choice.{choose, fold}
use Rattle.net.specs.Records.{address_of, marked, with_process, with_tuple}
use Rattle.net.specs.Groups.{member, all_members}
use Rattle.plans.specs.Additions.{tuple_of}
use Rattle.step.specs.Types.{Group, Tuple, Process, Node, Net, Plan, Picked}
use Rattle.step.specs.Pick.{host_of, slot_of}
use Rattle.step.specs.PutBack.{changes}
use Rattle.step.specs.Turn.{Turn, turn_plan}

unfoldable pub node_in : List Node → ℕ → Node
node_in xs i = get_or xs i (record { rows = []; processes = []; stored = 0; tuples = [] })

-- each member has room
unfoldable pub room_in : List Node → Group → Bool
room_in xs g = all_members g (λ l. ltb (node_in xs l.0).stored 16)

-- the tuple added at each member below address n, as the newest
unfoldable pub given_below : ℕ → List Node → Group → Tuple → List Node
given_below n xs g t =
    fold n (λ i ys. set ys i (choose (member g (address_of i)) (with_tuple (node_in ys i) t) (node_in ys i))) xs

-- its plan, drawn from the host's node
unfoldable pub share_plan : List Node → Turn → Plan
share_plan xs t = turn_plan t (node_in xs (host_of t.seat.pick).0) (room_in xs t.group)

-- the nodes after it, p being the host's process then
unfoldable pub shared_by : List Node → Turn → Process → List Node
shared_by xs t p =
    given_below 16
    (set xs (host_of t.seat.pick).0 (with_process (node_in xs (host_of t.seat.pick).0) (slot_of t.seat.pick) p))
    t.group
    (marked (host_of t.seat.pick) (tuple_of t.template))

unfoldable pub shared_of : List Node → Turn → Shared
shared_of xs t = record {
  answer = (share_plan xs t).answer;
  nodes = choose (changes (share_plan xs t).answer) (shared_by xs t (share_plan xs t).process) xs;
}

-- in a net
unfoldable pub with_nodes : Net → List Node → Net
with_nodes s xs =
    record { format = s.format; addresses = s.addresses; length = s.length; nodes = xs; code = s.code }

unfoldable pub shared_at : Net → Shared → Picked
shared_at s r = record { answer = r.answer; net = with_nodes s r.nodes }
