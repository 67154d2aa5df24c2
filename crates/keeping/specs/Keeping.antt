-- Rights, and code that keeps within a row (document 01, "The net", "Reaching and rights").
use Rattle.std.specs.Prelude.{Bool, true, false, List, get_or}
use Rattle.net.specs.Choice.{choose, implies, all}
use Rattle.keeping.specs.Types.{Locality, Place, Row, Target, Action, Instruction}
use Rattle.net.specs.Records.{rights_at, instruction_at, place_of}
use Rattle.net.specs.declared.locality.Group.{Group}
use Rattle.net.specs.Groups.{all_members}
use Rattle.keeping.specs.Reaching.{reached_of}

-- ---- the rights of a row: taking covers reading (document 02, slip 6), and no other right includes another
unfoldable pub may_take : Row → Locality → Bool
may_take r l = (rights_at r l).take

unfoldable pub may_read : Row → Locality → Bool
may_read r l = choose (rights_at r l).take true (rights_at r l).read

unfoldable pub may_put : Row → Locality → Bool
may_put r l = (rights_at r l).put

unfoldable pub may_send : Row → Locality → Bool
may_send r l = (rights_at r l).send

unfoldable pub may_create : Row → Bool
may_create r = r.create

-- the right at a written target or at self (a itself); a variable is judged when the action runs
unfoldable pub at_target : Target → Locality → (Locality → Bool) → Bool
at_target (Target.Written l) a may = may l
at_target Target.Own a may = may a
at_target (Target.Held v) a may = true

-- the right o at each member of a set (document 02, slip 11)
unfoldable pub may_put_all : Row → Group → Bool
may_put_all r g = all_members g (may_put r)

unfoldable pub permits : Row → Locality → Action → Bool
permits r a Action.Stop = true
permits r a (Action.Out t p) = at_target t a (may_put r)
permits r a (Action.In t p) = at_target t a (may_take r)
permits r a (Action.Read t p) = at_target t a (may_read r)
permits r a (Action.Eval t sent p) = at_target t a (may_send r)
permits r a (Action.New v p) = may_create r
permits r a (Action.Fork p q) = true
permits r a (Action.OutAll g p) = may_put_all r g

-- every marked instruction has its right
unfoldable pub permits_marked : List Bool → List Instruction → Locality → Row → Bool
permits_marked marks code a r =
    all 512 (λ q. implies (get_or marks q false) (permits r a (instruction_at code (place_of q)).action))

-- the code from place p keeps within the row r of address a
unfoldable pub keeps_of : List Instruction → Place → Locality → Row → Bool
keeps_of code p a r = permits_marked (reached_of code p) code a r
