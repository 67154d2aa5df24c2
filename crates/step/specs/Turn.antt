-- Describes the code, and is no part of what a reader has to believe: how a pick is made without handing a net on. The few
-- records that it concerns are looked at one after another, and a plan is drawn from them. One pick and the loop over many
-- both go this way; `proofs/TurnLaws.antt` shows that the plan put back is `step_of` of `Pick.antt`.
pub use Rattle.step.specs.declared.turn.Seat.{Seat}
pub use Rattle.step.specs.declared.turn.Turn.{Turn}
use Rattle.std.specs.Prelude.{ℕ, Bool, true, false, List, eqb, ltb}
use Rattle.net.specs.Choice.{choose, both}
use Rattle.net.specs.Records.{zero_instruction, process_at, node_at, instruction_at, row_for, sent_from, address_of, place_of}
use Rattle.matching.specs.Matching.{evaluated_of}
use Rattle.keeping.specs.Keeping.{keeps_of}
use Rattle.plans.specs.Request.{request_of, is_new}
use Rattle.plans.specs.Plan.{plan_of, refusing}
use Rattle.step.specs.Types.{Locality, Place, Group, Process, Node, Instruction, Net, Evaluated, Answer, Request, Plan}
use Rattle.step.specs.Pick.{host_of, slot_of, spare_of}

-- the pick is well formed, its address in use and its slot busy: 9, 8 and 7 are absent
unfoldable pub ready : ℕ → ℕ → Process → Bool
ready b n p = both (eqb (spare_of b) 0) (both (ltb (host_of b).0 n) p.busy)

-- the answer where one of them is met
unfoldable pub refusal : ℕ → ℕ → Answer
refusal b n = choose (eqb (spare_of b) 0) (choose (ltb (host_of b).0 n) Answer.FreeSlot Answer.NotInUse) Answer.Malformed

-- the instruction that a pick meets, c being the one at its process's place: a stop where it meets none, and past the code
unfoldable pub met : ℕ → ℕ → Process → Instruction → Instruction
met b n p c = choose (ready b n p) (choose (ltb p.at.0 512) c zero_instruction) zero_instruction

-- ---- what a pick finds at its host x, f being the format and n the address count

-- the index of a place in the code: the place itself, where it is one
unfoldable pub index_in : Place → ℕ
index_in p = choose (ltb p.0 512) p.0 0

unfoldable pub seated : ℕ → ℕ → ℕ → Node → Process → Seat
seated b f n x p = record { pick = b; format = f; addresses = n; process = p; row = row_for x p; index = index_in p.at }

unfoldable pub seat_of : ℕ → ℕ → ℕ → Node → Seat
seat_of b f n x = seated b f n x (process_at x (slot_of b))

-- ---- the address whose node the plan of a request of the host a is drawn from: its one target's, and a where it has none, or one
-- that has no node yet, or a set of them; a too where no node has the address
unfoldable pub near : Locality → Locality → Locality
near l a = choose (ltb l.0 16) l a

unfoldable pub source_in : Locality → Request → Locality
source_in a Request.Lack = a
source_in a Request.Stop = a
source_in a (Request.Out l q) = near l a
source_in a (Request.In l q) = near l a
source_in a (Request.Read l q) = near l a
source_in a (Request.Eval l sent q) = near l a
source_in a (Request.New v q) = a
source_in a (Request.Fork q r) = a
source_in a (Request.OutAll g q) = a

-- the address that it changes beside its host, n being the address count: for a new the one that it opens
unfoldable pub target_in : Locality → ℕ → Request → Locality
target_in a n r = choose (is_new r) (near (address_of n) a) (source_in a r)

-- ---- the set that a request puts to: the empty one where it is no out to a set
unfoldable pub no_group : Group
no_group = record { 0 = 0 }

unfoldable pub group_of : Request → Group
group_of Request.Lack = no_group
group_of Request.Stop = no_group
group_of (Request.Out l q) = no_group
group_of (Request.In l q) = no_group
group_of (Request.Read l q) = no_group
group_of (Request.Eval l sent q) = no_group
group_of (Request.New v q) = no_group
group_of (Request.Fork q r) = no_group
group_of (Request.OutAll g q) = g

-- ---- whether a request sends code
unfoldable pub sends_code : Request → Bool
sends_code Request.Lack = false
sends_code Request.Stop = false
sends_code (Request.Out l q) = false
sends_code (Request.In l q) = false
sends_code (Request.Read l q) = false
sends_code (Request.Eval l sent q) = true
sends_code (Request.New v q) = false
sends_code (Request.Fork q q') = false
sends_code (Request.OutAll g q) = false

-- ---- what a pick asks for from its seat: m is the instruction that it meets, c the one at the seat's index
unfoldable pub asking : Locality → Seat → Instruction → Turn
asking a z m = record {
  seat = z;
  request = request_of a z.process m;
  template = evaluated_of a z.process m;
  target = target_in a z.addresses (request_of a z.process m);
  source = source_in a (request_of a z.process m);
  sends = sends_code (request_of a z.process m);
  group = group_of (request_of a z.process m);
}

unfoldable pub turn_of : Seat → Instruction → Turn
turn_of z c = asking (host_of z.pick) z (met z.pick z.addresses z.process c)

-- of a pick in a net
unfoldable pub seat_at : Net → ℕ → Seat
seat_at s b = seat_of b s.format s.addresses (node_at s (host_of b))

unfoldable pub turn_at : Net → ℕ → Turn
turn_at s b = turn_of (seat_at s b) (instruction_at s.code (place_of (seat_at s b).index))

-- ---- whether the code that a request of the process p at address a sends keeps within the row that the node y has for it
unfoldable pub sent_within : List Instruction → Locality → Process → Node → Request → Bool
sent_within code a p y Request.Lack = true
sent_within code a p y Request.Stop = true
sent_within code a p y (Request.Out l q) = true
sent_within code a p y (Request.In l q) = true
sent_within code a p y (Request.Read l q) = true
sent_within code a p y (Request.Eval l sent q) = keeps_of code sent l (row_for y (sent_from a p sent))
sent_within code a p y (Request.New v q) = true
sent_within code a p y (Request.Fork q q') = true
sent_within code a p y (Request.OutAll g q) = true

-- ---- the plan of a turn: y is the node at its source, `within` whether sent code keeps within y's row for it, or whether each
-- member of its set has room
unfoldable pub seat_plan : Seat → Evaluated → Request → Node → Bool → Plan
seat_plan z e req y within =
    choose (ready z.pick z.addresses z.process)
    (plan_of z.format (host_of z.pick) z.row z.process y e z.addresses within req)
    (refusing (refusal z.pick z.addresses) y)

unfoldable pub turn_plan : Turn → Node → Bool → Plan
turn_plan t y within = seat_plan t.seat t.template t.request y within

unfoldable pub plan_with : List Instruction → Turn → Node → Plan
plan_with code t y = turn_plan t y (sent_within code (host_of t.seat.pick) t.seat.process y t.request)

-- in a net, where its set is empty (`Sharing.antt` has the others)
unfoldable pub plan_at : Net → Turn → Plan
plan_at s t = plan_with s.code t (node_at s t.source)
