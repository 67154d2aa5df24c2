-- Describes the code, and is no part of what a reader has to believe: a step as a plan that is drawn from the few records
-- that it concerns. The crate `step` shows that a plan put back into the net is the step of its `Pick.antt`.
pub use Rattle.plans.specs.declared.plan.Plan.{Plan}
use Rattle.std.specs.Prelude.{ℕ, Bool, true, false, ltb, Option, Some, None}
use Rattle.net.specs.Choice.{choose}
use Rattle.net.specs.Records.{with_rows, with_variable, moved_to, copied_to, sent_from}
use Rattle.net.specs.Records.{marked, put_in, taken_from, started_on, free_process, zero_node, address_of}
use Rattle.matching.specs.Matching.{matched_of}
use Rattle.plans.specs.Types.{Locality, Place, Value, Tuple, Row, Process, Node, Evaluated}
use Rattle.plans.specs.Answer.{Answer}
use Rattle.plans.specs.Request.{Request, granted}
use Rattle.plans.specs.Additions.{tuple_of, opened_rows}

-- ---- plans: in what follows p is the host's process, y the node at the target

-- the process goes on, and y is the target's node
unfoldable pub going : Process → Node → Plan
going p y = record { answer = Answer.Performed; process = p; target = y; opens = false }

-- nothing changes
unfoldable pub refusing : Answer → Node → Plan
refusing answer y = record { answer = answer; process = free_process; target = y; opens = false }

-- what comes of a change at the target y: the process goes on, or the change could not be made
unfoldable pub changing : Process → Answer → Node → Option Node → Plan
changing p refusal y (Some x) = going p x
changing p refusal y None = refusing refusal y

unfoldable pub stop_plan : Node → Plan
stop_plan y = record { answer = Answer.Ended; process = free_process; target = y; opens = false }

unfoldable pub out_plan : Process → Node → Place → Tuple → Plan
out_plan p y q t = changing (moved_to p q) Answer.NoRoom y (put_in y t)

unfoldable pub in_plan : Process → Node → Place → Option ℕ → Plan
in_plan p y q (Some i) = changing (moved_to p q) Answer.NoTuple y (taken_from y i)
in_plan p y q None = refusing Answer.NoTuple y

unfoldable pub read_plan : Process → Node → Place → Option ℕ → Plan
read_plan p y q (Some i) = going (moved_to p q) y
read_plan p y q None = refusing Answer.NoTuple y

-- the process `copy` starts at the target
unfoldable pub start_plan : Process → Node → Process → Place → Plan
start_plan p y copy q = changing (moved_to p q) Answer.NoRoom y (started_on y copy)

-- a is the host's address, from which the code is sent
unfoldable pub eval_plan : Locality → Process → Node → Place → Place → Bool → Plan
eval_plan a p y sent q within = choose within (start_plan p y (sent_from a p sent) q) (refusing Answer.NotWithin y)

-- a new address l, opened in a net of format f by a process hosted at the node x of address a
unfoldable pub opening : ℕ → Locality → Process → Node → ℕ → Place → Locality → Plan
opening f a p x v q l = record {
  answer = Answer.Performed;
  process = moved_to (with_variable p v (Value.Address l)) q;
  target = with_rows zero_node (opened_rows f x a p l);
  opens = true;
}

unfoldable pub new_plan : ℕ → Locality → Process → Node → ℕ → Place → ℕ → Plan
new_plan f a p x v q n = choose (ltb n 16) (opening f a p x v q (address_of n)) (refusing Answer.NoRoom x)

-- an out to a set, where y is the host's node: the process goes on if each member has room. What the members receive is no part of
-- the plan (`Sharing.antt` of `step`)
unfoldable pub all_plan : Process → Node → Place → Bool → Plan
all_plan p y q room = choose room (going (moved_to p q) y) (refusing Answer.NoRoom y)

-- the plan of a request: f is the format, a the host's address, n the address count, `within` whether sent code keeps within y's
-- row for it, or whether each member of a set has room; for a new, whose target has no node yet, and for an out to a set, which has
-- many, y is the host's node
unfoldable pub granted_plan : ℕ → Locality → Process → Node → Evaluated → ℕ → Bool → Request → Plan
granted_plan f a p y e n within Request.Lack = refusing Answer.NotSet y
granted_plan f a p y e n within Request.Stop = stop_plan y
granted_plan f a p y e n within (Request.Out l q) = out_plan p y q (marked a (tuple_of e))
granted_plan f a p y e n within (Request.In l q) = in_plan (matched_of p y e).process y q (matched_of p y e).found
granted_plan f a p y e n within (Request.Read l q) = read_plan (matched_of p y e).process y q (matched_of p y e).found
granted_plan f a p y e n within (Request.Eval l sent q) = eval_plan a p y sent q within
granted_plan f a p y e n within (Request.New v q) = new_plan f a p y v q n
granted_plan f a p y e n within (Request.Fork q q') = start_plan p y (copied_to p q') q
granted_plan f a p y e n within (Request.OutAll g q) = all_plan p y q within

unfoldable pub plan_of : ℕ → Locality → Row → Process → Node → Evaluated → ℕ → Bool → Request → Plan
plan_of f a row p y e n within req =
    choose (granted row req) (granted_plan f a p y e n within req) (refusing Answer.NoRight y)
