-- An out to a set, store by store (document 02, slip 11): "either all receive the tuple or none does". In what follows s is the net
-- before a pick and `after` the net afterwards, g the set and t the tuple. The arrays of a program have the lengths of `Shaped`
-- (`proofs/Lengths.antt` of `net`).
use Rattle.std.specs.Prelude.{ℕ, ◌+◌, ◌<◌, ◌≡◌, ◌⊎◌, ◌≢◌, true, false, set}
use Rattle.net.specs.Records.{node_at, instruction_at, marked}
use Rattle.net.specs.Groups.{member}
use Rattle.net.specs.Shape.{Shaped}
use Rattle.matching.specs.Matching.{evaluated_of}
use Rattle.plans.specs.Answer.{number_of}
use Rattle.plans.specs.Additions.{tuple_of}
use Rattle.step.specs.Pick.{host_of, pick_of}
use Rattle.rules.specs.Types.{Locality, Place, Group, Tuple, Action, Net}
use Rattle.rules.specs.DemandOne.{picked_process, picked_action}

-- the store of address l is what it was with the tuple added as its newest
pub record Received (s after : Net) (t : Tuple) (l : Locality) : Type 0 where
  pub room : (node_at s l).stored < 16
  pub one_more_law : (node_at after l).stored ≡ (node_at s l).stored + 1
  pub newest : (node_at after l).tuples ≡ set (node_at s l).tuples (node_at s l).stored t

-- it is what it was
pub record Kept (s after : Net) (l : Locality) : Type 0 where
  pub same_count : (node_at after l).stored ≡ (node_at s l).stored
  pub same_tuples : (node_at after l).tuples ≡ (node_at s l).tuples

pub record AllReceive (s after : Net) (g : Group) (t : Tuple) : Type 0 where
  pub members : (l : Locality) → member g l ≡ true → Received s after t l
  pub others : (l : Locality) → member g l ≡ false → Kept s after l

pub record NoneReceives (s after : Net) : Type 0 where
  pub stores : (l : Locality) → Kept s after l

-- the tuple of the out that a pick names: its field values before the pick, with the host's mark
unfoldable pub picked_tuple : Net → ℕ → Tuple
picked_tuple s b =
    marked (host_of b)
    (tuple_of (evaluated_of (host_of b) (picked_process s b) (instruction_at s.code (picked_process s b).at)))

-- of each pick whose instruction is an out to a set, whatever the net: where the net is not sound the answer is 10
unfoldable pub AllOrNone : Type 0
AllOrNone =
    (s : Net) (b : ℕ) (g : Group) (q : Place)
    → Shaped s
    → picked_action s b ≡ Action.OutAll g q
    → ((number_of (pick_of s b).answer ≡ 0) × AllReceive s (pick_of s b).net g (picked_tuple s b))
    ⊎ ((number_of (pick_of s b).answer ≢ 0) × NoneReceives s (pick_of s b).net)
