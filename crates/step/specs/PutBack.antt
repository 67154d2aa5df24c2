-- Describes the code, and is no part of what a reader has to believe: a plan put back into the net, the target first and
-- then the host as it is then. `proofs/PutBack.antt` shows that this is the step of `Pick.antt`.
use Rattle.std.specs.Prelude.{ℕ, ◌+◌, Bool, true, false, ltb}
use Rattle.net.specs.Choice.{choose}
use Rattle.net.specs.Records.{node_at, with_process, with_node, with_rows, with_counts}
use Rattle.plans.specs.Additions.{creator_rows}
use Rattle.step.specs.Types.{Locality, Node, Net, Answer, Plan}

-- the answer changes the net
unfoldable pub changes : Answer → Bool
changes Answer.Performed = true
changes Answer.Ended = true
changes Answer.NoTuple = false
changes Answer.NoRoom = false
changes Answer.NoRight = false
changes Answer.NotWithin = false
changes Answer.NotSet = false
changes Answer.FreeSlot = false
changes Answer.NotInUse = false
changes Answer.Malformed = false
changes Answer.Unsound = false

-- the host with its process in slot k; where the target l is opened, its rows gain every right on it as the format f has it
unfoldable pub host_after : ℕ → Plan → ℕ → Locality → Node → Node
host_after f plan k l x =
    choose plan.opens (with_rows (with_process x k plan.process) (creator_rows f x plan.process l))
    (with_process x k plan.process)

-- one address more, where there is room for it
unfoldable pub count_after : Bool → ℕ → ℕ
count_after opens n = choose opens (choose (ltb n 16) (n + 1) n) n

unfoldable pub targeted : Net → Locality → Plan → Net
targeted s l plan = with_node s l plan.target

unfoldable pub put_back : Net → Locality → ℕ → Locality → Plan → Net
put_back s a k l plan =
    choose (changes plan.answer)
    (with_counts
    (with_node (targeted s l plan) a (host_after s.format plan k l (node_at (targeted s l plan) a)))
    (count_after plan.opens s.addresses)
    s.length)
    s
