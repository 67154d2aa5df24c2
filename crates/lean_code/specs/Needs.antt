-- Describes the code, and is no part of what a reader has to believe: the rights that code from a place needs, as 69 flags (document
-- 02, slip 12). Flag l is i over the written address l, 16 + l is r, 32 + l is o, 48 + l is e, and 64 is n; 65 to 68 are i, r, o and e
-- over self. `proofs/Admission.antt` shows that a row which grants them is one that the code keeps within.
use Rattle.std.specs.Prelude.{ℕ, ◌+◌, ◌*◌, ◌%◌, Bool, true, false, ◌||◌, List, get_or, set, replicate}
use Rattle.net.specs.Choice.{choose, fold}
use Rattle.net.specs.Records.{instruction_at, address_of, place_of}
use Rattle.net.specs.Groups.{member}
use Rattle.keeping.specs.Reaching.{reached_of}
use Rattle.lean_code.specs.Types.{Place, Group, Target, Action, Instruction}

-- one right more, over a target that is written or self: 0 is i, 1 is r, 2 is o, 3 is e
unfoldable pub add_right : List Bool → ℕ → Target → List Bool
add_right need right (Target.Written l) = set need (16 * (right % 4) + l.0 % 16) true
add_right need right Target.Own = set need (65 + right % 4) true
add_right need right (Target.Held v) = need

-- the right o over each member of a set more
unfoldable pub add_member : Group → ℕ → List Bool → List Bool
add_member g l need = set need (l + 32) (get_or need (l + 32) false || member g (address_of l))

unfoldable pub add_members : List Bool → Group → List Bool
add_members need g = fold 16 (add_member g) need

-- what an action needs more
unfoldable pub add_action : List Bool → Action → List Bool
add_action need Action.Stop = need
add_action need (Action.Out t q) = add_right need 2 t
add_action need (Action.In t q) = add_right need 0 t
add_action need (Action.Read t q) = add_right need 1 t
add_action need (Action.Eval t sent q) = add_right need 3 t
add_action need (Action.New v q) = set need 64 true
add_action need (Action.Fork q r) = need
add_action need (Action.OutAll g q) = add_members need g

unfoldable pub add_where : Bool → Action → List Bool → List Bool
add_where marked x need = choose marked (add_action need x) need

-- what the instruction at place q needs more, where it is reached
unfoldable pub add_reached : List Instruction → List Bool → ℕ → List Bool → List Bool
add_reached code marks q need = add_where (get_or marks q false) (instruction_at code (place_of q)).action need

unfoldable pub needs_of : List Instruction → Place → List Bool
needs_of code p = fold 512 (add_reached code (reached_of code p)) (replicate 69 false)

-- ---- the place that an instruction sends; 512 where it sends none
unfoldable pub sent_of : Action → Place
sent_of Action.Stop = place_of 512
sent_of (Action.Out t q) = place_of 512
sent_of (Action.In t q) = place_of 512
sent_of (Action.Read t q) = place_of 512
sent_of (Action.Eval t sent q) = sent
sent_of (Action.New v q) = place_of 512
sent_of (Action.Fork q r) = place_of 512
sent_of (Action.OutAll g q) = place_of 512

unfoldable pub sent_by : Instruction → Place
sent_by c = sent_of c.action
