-- The records of a net, their zero values, and how each part is read and replaced (document 01, "The net").
pub use Rattle.net.specs.declared.locality.Locality.{Locality}
pub use Rattle.net.specs.declared.locality.Place.{Place}
pub use Rattle.net.specs.declared.tuple.Value.{Value}
pub use Rattle.net.specs.declared.tuple.Variable.{Variable}
pub use Rattle.net.specs.declared.tuple.Item.{Item}
pub use Rattle.net.specs.declared.tuple.Field.{Field}
pub use Rattle.net.specs.declared.tuple.Tuple.{Tuple}
pub use Rattle.net.specs.declared.policy.Rights.{Rights}
pub use Rattle.net.specs.declared.policy.Row.{Row}
pub use Rattle.net.specs.declared.process.Process.{Process}
pub use Rattle.net.specs.declared.node.Node.{Node}
pub use Rattle.net.specs.declared.instruction.Target.{Target}
pub use Rattle.net.specs.declared.instruction.Pattern.{Pattern}
pub use Rattle.net.specs.declared.instruction.TemplateField.{TemplateField}
pub use Rattle.net.specs.declared.instruction.Action.{Action}
pub use Rattle.net.specs.declared.instruction.Instruction.{Instruction}
pub use Rattle.net.specs.declared.network.Net.{Net}
use Rattle.std.specs.Prelude.{ℕ, ◌+◌, ◌-◌, ltb, true, false, not, List, [], get_or, set, replicate, ℤ, Option, Some, None}
use Rattle.net.specs.Choice.{choose, fold, first_below}

-- ---- zero records: what an unused record, a free slot and the empty net hold
unfoldable pub zero_field : Field
zero_field = record { item = Item.Reading (ℤ.pos 0) }

unfoldable pub zero_tuple : Tuple
zero_tuple = record { count = 0; fields = replicate 4 zero_field; mark = record { 0 = 0 } }

unfoldable pub unset_variable : Variable
unset_variable = record { value = Value.Unset }

unfoldable pub free_process : Process
free_process = record { busy = false; at = record { 0 = 0 }; origin = record { 0 = 0 }; variables = replicate 8 unset_variable }

-- a process of origin a as it starts at place p: every variable unset
unfoldable pub starting_at : Locality → Place → Process
starting_at a p = record { busy = true; at = p; origin = a; variables = replicate 8 unset_variable }

unfoldable pub no_rights : Rights
no_rights = record { take = false; read = false; put = false; send = false }

-- every right over an address
unfoldable pub all_rights : Rights
all_rights = record { take = true; read = true; put = true; send = true }

unfoldable pub zero_row : Row
zero_row = record { create = false; rights = replicate 16 no_rights }

-- one row for every origin
unfoldable pub alike : Row → List Row
alike r = replicate 16 r

unfoldable pub zero_node : Node
zero_node = record { rows = alike zero_row; processes = replicate 4 free_process; stored = 0; tuples = replicate 16 zero_tuple }

unfoldable pub zero_template_field : TemplateField
zero_template_field = record { pattern = Pattern.Reading (ℤ.pos 0) }

unfoldable pub zero_instruction : Instruction
zero_instruction = record { action = Action.Stop; count = 0; template = replicate 4 zero_template_field }

unfoldable pub empty_net : Net
empty_net = record { format = 0; addresses = 0; length = 0; nodes = replicate 16 zero_node; code = replicate 512 zero_instruction }

-- ---- an address and a code place, each made from its number: two types, never mixed
abbrev pub address_of : ℕ → Locality
address_of n = record { 0 = n }

abbrev pub place_of : ℕ → Place
place_of n = record { 0 = n }

-- ---- reading a part. Past the end of an array stands the language's own default, which has empty arrays;
-- no array of a running program is read there.
unfoldable pub field_at : Tuple → ℕ → Item
field_at t i = (get_or t.fields i (record { item = Item.Reading (ℤ.pos 0) })).item

unfoldable pub variable_at : Process → ℕ → Value
variable_at p v = (get_or p.variables v (record { value = Value.Unset })).value

unfoldable pub rights_at : Row → Locality → Rights
rights_at r l = get_or r.rights l.0 (record { take = false; read = false; put = false; send = false })

-- a node's row for an origin
unfoldable pub row_at : Node → Locality → Row
row_at n o = get_or n.rows o.0 (record { create = false; rights = [] })

unfoldable pub process_at : Node → ℕ → Process
process_at n k =
    get_or n.processes k (record { busy = false; at = record { 0 = 0 }; origin = record { 0 = 0 }; variables = [] })

unfoldable pub tuple_at : Node → ℕ → Tuple
tuple_at n i = get_or n.tuples i (record { count = 0; fields = []; mark = record { 0 = 0 } })

unfoldable pub pattern_at : Instruction → ℕ → Pattern
pattern_at c i = (get_or c.template i (record { pattern = Pattern.Reading (ℤ.pos 0) })).pattern

unfoldable pub node_at : Net → Locality → Node
node_at s a =
    get_or s.nodes a.0
    (record { rows = []; processes = []; stored = 0; tuples = [] })

unfoldable pub instruction_at : List Instruction → Place → Instruction
instruction_at code p = get_or code p.0 (record { action = Action.Stop; count = 0; template = [] })

-- the row that a process of the node is judged by: the one for its origin (document 02, slip 10); an empty one where no
-- address is its origin, which no sound net has
unfoldable pub row_for : Node → Process → Row
row_for n p = choose (ltb p.origin.0 16) (row_at n p.origin) zero_row

-- ---- replacing a part
unfoldable pub with_field : Tuple → Field → Tuple
with_field t f =
    choose (ltb t.count 4) (record { count = t.count + 1; fields = set t.fields t.count f; mark = t.mark }) t

-- the tuple with the mark of address a: who put it there (document 02, slip 8)
unfoldable pub marked : Locality → Tuple → Tuple
marked a t = record { count = t.count; fields = t.fields; mark = a }

unfoldable pub with_variable : Process → ℕ → Value → Process
with_variable p v x =
    record { busy = p.busy; at = p.at; origin = p.origin; variables = set p.variables v (record { value = x }) }

unfoldable pub with_rights : Row → Locality → Rights → Row
with_rights r l x = record { create = r.create; rights = set r.rights l.0 x }

unfoldable pub with_rows : Node → List Row → Node
with_rows n rs = record { rows = rs; processes = n.processes; stored = n.stored; tuples = n.tuples }

-- the node with another row for an origin
unfoldable pub with_row : Node → Locality → Row → Node
with_row n o r = with_rows n (set n.rows o.0 r)

unfoldable pub with_process : Node → ℕ → Process → Node
with_process n k p =
    record { rows = n.rows; processes = set n.processes k p; stored = n.stored; tuples = n.tuples }

-- the tuple added as the newest, where there is room for it
unfoldable pub with_tuple : Node → Tuple → Node
with_tuple n t =
    choose (ltb n.stored 16)
    (record { rows = n.rows; processes = n.processes; stored = n.stored + 1; tuples = set n.tuples n.stored t })
    n

unfoldable pub with_pattern : Instruction → TemplateField → Instruction
with_pattern c f =
    choose (ltb c.count 4)
    (record { action = c.action; count = c.count + 1; template = set c.template c.count f })
    c

unfoldable pub with_action : Instruction → Action → Instruction
with_action c a = record { action = a; count = c.count; template = c.template }

unfoldable pub with_node : Net → Locality → Node → Net
with_node s a n = record {
  format = s.format;
  addresses = s.addresses;
  length = s.length;
  nodes = set s.nodes a.0 n;
  code = s.code;
}

unfoldable pub with_instruction : Net → Place → Instruction → Net
with_instruction s p c = record {
  format = s.format;
  addresses = s.addresses;
  length = s.length;
  nodes = s.nodes;
  code = set s.code p.0 c;
}

unfoldable pub with_counts : Net → ℕ → ℕ → Net
with_counts s n k = record { format = s.format; addresses = n; length = k; nodes = s.nodes; code = s.code }

unfoldable pub with_format : Net → ℕ → Net
with_format s f = record { format = f; addresses = s.addresses; length = s.length; nodes = s.nodes; code = s.code }

-- ---- changes that a step makes

-- the process at another place
unfoldable pub moved_to : Process → Place → Process
moved_to p q = record { busy = p.busy; at = q; origin = p.origin; variables = p.variables }

-- a new process at a place, of the same origin and with a copy of the variables
unfoldable pub copied_to : Process → Place → Process
copied_to p q = record { busy = true; at = q; origin = p.origin; variables = p.variables }

-- code that address a sends: a new process at a place, of origin a and with a copy of the variables (document 02, slip 10)
unfoldable pub sent_from : Locality → Process → Place → Process
sent_from a p q = record { busy = true; at = q; origin = a; variables = p.variables }

-- what stands at place j once the tuple at place i is taken: younger tuples move up by one place
unfoldable pub after_taking : Node → ℕ → ℕ → Tuple
after_taking x i j = choose (ltb j i) (tuple_at x j) (choose (ltb j 15) (tuple_at x (j + 1)) zero_tuple)

unfoldable pub without_tuple : Node → ℕ → Node
without_tuple x i = record {
  rows = x.rows;
  processes = x.processes;
  stored = x.stored - 1;
  tuples = fold 16 (λ j ts. set ts j (after_taking x i j)) x.tuples;
}

-- the lowest free slot of a node
unfoldable pub free_slot : Node → Option ℕ
free_slot x = first_below 4 (λ j. not (process_at x j).busy) Some None

-- how many processes a node has: its busy slots
unfoldable pub process_count : Node → ℕ
process_count x = fold 4 (λ i count. choose (process_at x i).busy (count + 1) count) 0

-- ---- a node after a change, where the change can be made

-- a tuple put as the newest, where there is room for it
unfoldable pub put_in : Node → Tuple → Option Node
put_in x t = choose (ltb x.stored 16) (Some (with_tuple x t)) None

-- the tuple at place i taken, where there is one
unfoldable pub taken_from : Node → ℕ → Option Node
taken_from x i = choose (ltb i x.stored) (Some (without_tuple x i)) None

-- a process started in the lowest free slot, where there is one
unfoldable pub started_at_slot : Node → Process → Option ℕ → Option Node
started_at_slot x p (Some j) = Some (with_process x j p)
started_at_slot x p None = None

unfoldable pub started_on : Node → Process → Option Node
started_on x p = started_at_slot x p (free_slot x)
