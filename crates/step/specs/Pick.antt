-- One pick (document 01, "One pick"): the answer and the net after it, for every net and every byte. In what follows s
-- is the net, a the hosting address, k the slot, p the process that stands there.
use Rattle.std.specs.Prelude.{ℕ, ◌+◌, ◌/◌, ◌%◌, Bool, eqb, ltb, Option, Some, None}
use Rattle.net.specs.Choice.{choose, fold}
use Rattle.net.specs.Records.{process_at, node_at, instruction_at, row_for, with_process, with_tuple, with_node, with_rows}
use Rattle.net.specs.Records.{with_variable, moved_to, copied_to, sent_from, without_tuple, free_slot, free_process, zero_node}
use Rattle.net.specs.Records.{marked, address_of, with_counts}
use Rattle.net.specs.declared.locality.Group.{Group}
use Rattle.net.specs.Groups.{member, all_members}
use Rattle.matching.specs.Matching.{evaluated_of, matched_of}
use Rattle.keeping.specs.Keeping.{keeps_of}
use Rattle.sound.specs.Soundness.{sound_of}
use Rattle.plans.specs.Request.{request_of, granted}
use Rattle.plans.specs.Additions.{tuple_of, opened_rows, creator_rows}
use Rattle.step.specs.Types.{Locality, Place, Tuple, Process, Net, Instruction, Value}
use Rattle.step.specs.Types.{Evaluated, Matched, Answer, Picked, Request}

-- ---- what a pick's byte names: address (4 bits), slot (2 bits), 2 zero bits
unfoldable pub host_of : ℕ → Locality
host_of b = address_of (b / 16)

unfoldable pub slot_of : ℕ → ℕ
slot_of b = b / 4 % 4

unfoldable pub spare_of : ℕ → ℕ
spare_of b = b % 4

-- ---- answers
unfoldable pub unchanged : Answer → Net → Picked
unchanged answer s = record { answer = answer; net = s }

unfoldable pub performed : Net → Picked
performed s = record { answer = Answer.Performed; net = s }

-- ---- what each request does

-- the host with its process in slot k replaced
unfoldable pub with_host : Net → Locality → ℕ → Process → Net
with_host s a k p = with_node s a (with_process (node_at s a) k p)

-- stop: the slot is freed
unfoldable pub stopped : Net → Locality → ℕ → Picked
stopped s a k = record { answer = Answer.Ended; net = with_host s a k free_process }

-- the tuple added at l, as the newest
unfoldable pub added : Net → Locality → Tuple → Net
added s l t = with_node s l (with_tuple (node_at s l) t)

unfoldable pub out : Net → Locality → ℕ → Process → Locality → Place → Tuple → Picked
out s a k p l q t =
    choose (ltb (node_at s l).stored 16) (performed (added (with_host s a k (moved_to p q)) l t)) (unchanged Answer.NoRoom s)

-- an out to a set (document 02, slip 11): "right o is needed at each member, and room at each; either all receive the tuple or
-- none does"
unfoldable pub room_at_all : Net → Group → Bool
room_at_all s g = all_members g (λ l. ltb (node_at s l).stored 16)

-- the tuple added at each member, as the newest
unfoldable pub added_all : Net → Group → Tuple → Net
added_all s g t = fold 16 (λ i s'. choose (member g (address_of i)) (added s' (address_of i) t) s') s

unfoldable pub out_all : Net → Locality → ℕ → Process → Group → Place → Tuple → Picked
out_all s a k p g q t =
    choose (room_at_all s g) (performed (added_all (with_host s a k (moved_to p q)) g t)) (unchanged Answer.NoRoom s)

-- the tuple at place i taken at l
unfoldable pub taken : Net → Locality → ℕ → Net
taken s l i = with_node s l (without_tuple (node_at s l) i)

unfoldable pub in_found : Net → Locality → ℕ → Locality → Place → Option ℕ → Process → Picked
in_found s a k l q (Some i) p = performed (taken (with_host s a k (moved_to p q)) l i)
in_found s a k l q None p = unchanged Answer.NoTuple s

unfoldable pub input : Net → Locality → ℕ → Locality → Place → Matched → Picked
input s a k l q m = in_found s a k l q m.found m.process

unfoldable pub read_found : Net → Locality → ℕ → Place → Option ℕ → Process → Picked
read_found s a k q (Some i) p = performed (with_host s a k (moved_to p q))
read_found s a k q None p = unchanged Answer.NoTuple s

unfoldable pub read : Net → Locality → ℕ → Place → Matched → Picked
read s a k q m = read_found s a k q m.found m.process

-- the process goes on at q, and its copy starts in slot j of l
unfoldable pub started_in : Net → Locality → ℕ → Locality → Process → Process → Place → Option ℕ → Picked
started_in s a k l p copy q (Some j) = performed (with_host (with_host s a k (moved_to p q)) l j copy)
started_in s a k l p copy q None = unchanged Answer.NoRoom s

-- eval: the process that would start has the host as its origin (document 02, slip 10). Its code has to keep within the target's
-- row for it, where self means the target
unfoldable pub eval : Net → Locality → ℕ → Process → Locality → Place → Place → Picked
eval s a k p l sent q =
    choose (keeps_of s.code sent l (row_for (node_at s l) (sent_from a p sent)))
    (started_in s a k l p (sent_from a p sent) q (free_slot (node_at s l)))
    (unchanged Answer.NotWithin s)

-- fork: the first branch stays in its slot, the second enters the lowest free slot there
unfoldable pub fork : Net → Locality → ℕ → Process → Place → Place → Picked
fork s a k p q r = started_in s a k a p (copied_to p r) q (free_slot (node_at s a))

-- new: the lowest unused address l. The rows of its node are made of the creator's as they stood (`opened_rows`); the creator's
-- gain every right on it (`creator_rows`), and no other row changes. In format 2 the row for the new origin is empty at every
-- other node and at the creator, since no sound net has a right in the row for an unused origin
unfoldable pub opened : Net → Net
opened s = with_counts s (s.addresses + 1) s.length

-- the lowest unused address
unfoldable pub unused : Net → Locality
unused s = address_of s.addresses

unfoldable pub created_at : Net → Locality → ℕ → Process → ℕ → Place → Locality → Net
created_at s a k p v q l =
    with_node
    (with_node (opened s) a
    (with_rows (with_process (node_at s a) k (moved_to (with_variable p v (Value.Address l)) q)) (creator_rows s.format (node_at s a) p l)))
    l
    (with_rows zero_node (opened_rows s.format (node_at s a) a p l))

unfoldable pub created : Net → Locality → ℕ → Process → ℕ → Place → Net
created s a k p v q = created_at s a k p v q (unused s)

unfoldable pub create : Net → Locality → ℕ → Process → ℕ → Place → Picked
create s a k p v q = choose (ltb s.addresses 16) (performed (created s a k p v q)) (unchanged Answer.NoRoom s)

-- what a request comes to whose right is held; a needed variable that is lacking is 6
unfoldable pub carried_out : Net → Locality → ℕ → Process → Evaluated → Request → Picked
carried_out s a k p e Request.Lack = unchanged Answer.NotSet s
carried_out s a k p e Request.Stop = stopped s a k
carried_out s a k p e (Request.Out l q) = out s a k p l q (marked a (tuple_of e))
carried_out s a k p e (Request.In l q) = input s a k l q (matched_of p (node_at s l) e)
carried_out s a k p e (Request.Read l q) = read s a k q (matched_of p (node_at s l) e)
carried_out s a k p e (Request.Eval l sent q) = eval s a k p l sent q
carried_out s a k p e (Request.New v q) = create s a k p v q
carried_out s a k p e (Request.Fork q r) = fork s a k p q r
carried_out s a k p e (Request.OutAll g q) = out_all s a k p g q (marked a (tuple_of e))

-- ---- the order of the tests: 9, 8, 7, then 1 at a stop, 6, 4, 5, then 3 or 2

-- the process p hosted at a in slot k makes its step. A lack and a stop need no right, so 6 and 1 come before 4
unfoldable pub acting : Net → Locality → ℕ → Process → Evaluated → Request → Picked
acting s a k p e r = choose (granted (row_for (node_at s a) p) r) (carried_out s a k p e r) (unchanged Answer.NoRight s)

unfoldable pub process_step : Net → Locality → ℕ → Process → Instruction → Picked
process_step s a k p c = acting s a k p (evaluated_of a p c) (request_of a p c)

-- the process in slot k of address a, if there is one
unfoldable pub slot_step : Net → Locality → ℕ → Picked
slot_step s a k =
    choose (process_at (node_at s a) k).busy
    (process_step s a k (process_at (node_at s a) k) (instruction_at s.code (process_at (node_at s a) k).at))
    (unchanged Answer.FreeSlot s)

-- a pick on a net that is known to be sound
unfoldable pub step_of : Net → ℕ → Picked
step_of s b =
    choose (eqb (spare_of b) 0)
    (choose (ltb (host_of b).0 s.addresses) (slot_step s (host_of b) (slot_of b)) (unchanged Answer.NotInUse s))
    (unchanged Answer.Malformed s)

-- a pick: 10 first
unfoldable pub pick_of : Net → ℕ → Picked
pick_of s b = choose (sound_of s) (step_of s b) (unchanged Answer.Unsound s)
