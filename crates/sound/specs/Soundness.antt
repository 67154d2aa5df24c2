-- Soundness of a net (document 01, "One pick"): counts in range, addresses below the address count, places below the
-- code length, variables below 8, rules 26 and 27, no right held by or over an unused address, and every record past a
-- count or in a free slot zero or unset. "A sound net is of format 1 with all 16 rows of a node equal, or of format 2 with no
-- right for an unused origin" (document 02, slip 10). In what follows f is the format, n the address count and k the code length.
use Rattle.std.specs.Prelude.{ℕ, Bool, true, false, not, eqb, leb, ltb, ℤ}
use Rattle.net.specs.Choice.{choose, both, implies, all, in_range}
use Rattle.sound.specs.Types.{Value, Item, Tuple, Rights, Row, Process, Node}
use Rattle.sound.specs.Types.{Target, Pattern, Action, Instruction, Net}
use Rattle.net.specs.Records.{field_at, variable_at, rights_at, row_at, process_at, tuple_at, pattern_at, node_at, instruction_at, address_of, place_of}
use Rattle.net.specs.Readings.{same_reading}
use Rattle.net.specs.declared.locality.Group.{Group}
use Rattle.net.specs.Groups.{all_members}

-- ---- tuples
unfoldable pub item_sound : ℕ → Item → Bool
item_sound n (Item.Reading x) = true
item_sound n (Item.Address l) = ltb l.0 n

unfoldable pub is_zero_item : Item → Bool
is_zero_item (Item.Reading x) = same_reading x (ℤ.pos 0)
is_zero_item (Item.Address l) = false

unfoldable pub fields_sound : ℕ → Tuple → Bool
fields_sound n t =
    both (in_range 1 t.count 4)
    (all 4 (λ i. choose (ltb i t.count) (item_sound n (field_at t i)) (is_zero_item (field_at t i))))

unfoldable pub tuple_sound : ℕ → Tuple → Bool
tuple_sound n t = both (ltb t.mark.0 n) (fields_sound n t)

unfoldable pub no_fields : Tuple → Bool
no_fields t = both (eqb t.count 0) (all 4 (λ i. is_zero_item (field_at t i)))

unfoldable pub is_zero_tuple : Tuple → Bool
is_zero_tuple t = both (eqb t.mark.0 0) (no_fields t)

unfoldable pub tuples_sound : ℕ → Node → Bool
tuples_sound n x =
    both (leb x.stored 16)
    (all 16 (λ i. choose (ltb i x.stored) (tuple_sound n (tuple_at x i)) (is_zero_tuple (tuple_at x i))))

-- ---- rows
unfoldable pub is_none : Rights → Bool
is_none r = both (both (not r.take) (not r.read)) (both (not r.put) (not r.send))

unfoldable pub row_sound : ℕ → Row → Bool
row_sound n r = all 16 (λ l. implies (leb n l) (is_none (rights_at r (address_of l))))

unfoldable pub is_zero_row : Row → Bool
is_zero_row r = both (not r.create) (all 16 (λ l. is_none (rights_at r (address_of l))))

-- ---- the rows of a node
unfoldable pub same_bool : Bool → Bool → Bool
same_bool a b = choose a b (not b)

unfoldable pub same_rights : Rights → Rights → Bool
same_rights r q =
    both (both (same_bool r.take q.take) (same_bool r.read q.read))
    (both (same_bool r.put q.put) (same_bool r.send q.send))

unfoldable pub same_row : Row → Row → Bool
same_row r q =
    both (same_bool r.create q.create)
    (all 16 (λ l. same_rights (rights_at r (address_of l)) (rights_at q (address_of l))))

-- format 1: one row for every origin
unfoldable pub rows_alike : Node → Bool
rows_alike x = all 16 (λ o. same_row (row_at x (address_of o)) (row_at x (address_of 0)))

-- format 2: no right in the row for an unused origin
unfoldable pub unused_barred : ℕ → Node → Bool
unused_barred n x = all 16 (λ o. implies (leb n o) (is_zero_row (row_at x (address_of o))))

-- each row by itself, and the rows beside one another
unfoldable pub rows_sound : ℕ → ℕ → Node → Bool
rows_sound f n x =
    both (all 16 (λ o. row_sound n (row_at x (address_of o)))) (choose (eqb f 1) (rows_alike x) (unused_barred n x))

unfoldable pub no_rows : Node → Bool
no_rows x = all 16 (λ o. is_zero_row (row_at x (address_of o)))

-- ---- processes
unfoldable pub value_sound : ℕ → Value → Bool
value_sound n Value.Unset = true
value_sound n (Value.Reading x) = true
value_sound n (Value.Address l) = ltb l.0 n

unfoldable pub is_unset : Value → Bool
is_unset Value.Unset = true
is_unset (Value.Reading x) = false
is_unset (Value.Address l) = false

unfoldable pub all_unset : Process → Bool
all_unset p = all 8 (λ v. is_unset (variable_at p v))

unfoldable pub is_free : Process → Bool
is_free p = both (not p.busy) (both (eqb p.at.0 0) (both (eqb p.origin.0 0) (all_unset p)))

unfoldable pub process_sound : ℕ → ℕ → Process → Bool
process_sound n k p =
    choose p.busy
    (both (ltb p.at.0 k) (both (ltb p.origin.0 n) (all 8 (λ v. value_sound n (variable_at p v)))))
    (is_free p)

-- ---- nodes
unfoldable pub node_sound : ℕ → ℕ → ℕ → Node → Bool
node_sound f n k x = both (rows_sound f n x) (both (all 4 (λ i. process_sound n k (process_at x i))) (tuples_sound n x))

unfoldable pub is_zero_node : Node → Bool
is_zero_node x =
    both (no_rows x)
    (both (all 4 (λ i. is_free (process_at x i)))
    (both (eqb x.stored 0) (all 16 (λ i. is_zero_tuple (tuple_at x i)))))

-- ---- instructions
unfoldable pub target_sound : ℕ → Target → Bool
target_sound n (Target.Written l) = ltb l.0 n
target_sound n Target.Own = true
target_sound n (Target.Held v) = ltb v 8

unfoldable pub pattern_sound : ℕ → Pattern → Bool
pattern_sound n (Pattern.Reading x) = true
pattern_sound n (Pattern.Address l) = ltb l.0 n
pattern_sound n Pattern.Own = true
pattern_sound n (Pattern.Held v) = ltb v 8
pattern_sound n (Pattern.FormalReading v) = ltb v 8
pattern_sound n (Pattern.FormalAddress v) = ltb v 8

unfoldable pub is_zero_pattern : Pattern → Bool
is_zero_pattern (Pattern.Reading x) = same_reading x (ℤ.pos 0)
is_zero_pattern (Pattern.Address l) = false
is_zero_pattern Pattern.Own = false
is_zero_pattern (Pattern.Held v) = false
is_zero_pattern (Pattern.FormalReading v) = false
is_zero_pattern (Pattern.FormalAddress v) = false

unfoldable pub template_sound : ℕ → Instruction → Bool
template_sound n c =
    both (in_range 1 c.count 4)
    (all 4 (λ i. choose (ltb i c.count) (pattern_sound n (pattern_at c i)) (is_zero_pattern (pattern_at c i))))

unfoldable pub no_template : Instruction → Bool
no_template c = both (eqb c.count 0) (all 4 (λ i. is_zero_pattern (pattern_at c i)))

-- rule 26: no field is a formal
unfoldable pub is_actual : Pattern → Bool
is_actual (Pattern.Reading x) = true
is_actual (Pattern.Address l) = true
is_actual Pattern.Own = true
is_actual (Pattern.Held v) = true
is_actual (Pattern.FormalReading v) = false
is_actual (Pattern.FormalAddress v) = false

unfoldable pub actuals_only : Instruction → Bool
actuals_only c = all 4 (λ i. implies (ltb i c.count) (is_actual (pattern_at c i)))

-- rule 27: no variable is formal twice
unfoldable pub binds_not : ℕ → Pattern → Bool
binds_not v (Pattern.Reading x) = true
binds_not v (Pattern.Address l) = true
binds_not v Pattern.Own = true
binds_not v (Pattern.Held w) = true
binds_not v (Pattern.FormalReading w) = not (eqb w v)
binds_not v (Pattern.FormalAddress w) = not (eqb w v)

-- none of the first i fields binds variable v
unfoldable pub unbound_before : Instruction → ℕ → ℕ → Bool
unbound_before c i v = all 4 (λ j. implies (ltb j i) (binds_not v (pattern_at c j)))

unfoldable pub binds_anew : Instruction → ℕ → Pattern → Bool
binds_anew c i (Pattern.Reading x) = true
binds_anew c i (Pattern.Address l) = true
binds_anew c i Pattern.Own = true
binds_anew c i (Pattern.Held v) = true
binds_anew c i (Pattern.FormalReading v) = unbound_before c i v
binds_anew c i (Pattern.FormalAddress v) = unbound_before c i v

unfoldable pub formals_apart : Instruction → Bool
formals_apart c = all 4 (λ i. implies (ltb i c.count) (binds_anew c i (pattern_at c i)))

-- each member of a set is an address in use
unfoldable pub group_sound : ℕ → Group → Bool
group_sound n g = all_members g (λ l. ltb l.0 n)

-- an out to a set stands in format 2 alone (document 02, slip 11)
unfoldable pub action_sound : ℕ → ℕ → ℕ → Action → Bool
action_sound f n k Action.Stop = true
action_sound f n k (Action.Out t p) = both (target_sound n t) (ltb p.0 k)
action_sound f n k (Action.In t p) = both (target_sound n t) (ltb p.0 k)
action_sound f n k (Action.Read t p) = both (target_sound n t) (ltb p.0 k)
action_sound f n k (Action.Eval t sent p) = both (target_sound n t) (both (ltb sent.0 k) (ltb p.0 k))
action_sound f n k (Action.New v p) = both (ltb v 8) (ltb p.0 k)
action_sound f n k (Action.Fork p q) = both (ltb p.0 k) (ltb q.0 k)
action_sound f n k (Action.OutAll g p) = both (not (eqb f 1)) (both (group_sound n g) (ltb p.0 k))

-- the template that goes with an action
unfoldable pub template_for : ℕ → Action → Instruction → Bool
template_for n Action.Stop c = no_template c
template_for n (Action.Out t p) c = both (template_sound n c) (actuals_only c)
template_for n (Action.In t p) c = both (template_sound n c) (formals_apart c)
template_for n (Action.Read t p) c = both (template_sound n c) (formals_apart c)
template_for n (Action.Eval t sent p) c = no_template c
template_for n (Action.New v p) c = no_template c
template_for n (Action.Fork p q) c = no_template c
template_for n (Action.OutAll g p) c = both (template_sound n c) (actuals_only c)

unfoldable pub instruction_sound : ℕ → ℕ → ℕ → Instruction → Bool
instruction_sound f n k c = both (action_sound f n k c.action) (template_for n c.action c)

unfoldable pub is_stop : Action → Bool
is_stop Action.Stop = true
is_stop (Action.Out t p) = false
is_stop (Action.In t p) = false
is_stop (Action.Read t p) = false
is_stop (Action.Eval t sent p) = false
is_stop (Action.New v p) = false
is_stop (Action.Fork p q) = false
is_stop (Action.OutAll g p) = false

unfoldable pub is_zero_instruction : Instruction → Bool
is_zero_instruction c = both (is_stop c.action) (no_template c)

-- ---- the net
unfoldable pub nodes_sound : Net → Bool
nodes_sound s =
    all 16
    (λ a. choose (ltb a s.addresses)
    (node_sound s.format s.addresses s.length (node_at s (address_of a)))
    (is_zero_node (node_at s (address_of a))))

unfoldable pub code_sound : Net → Bool
code_sound s =
    all 512
    (λ p. choose (ltb p s.length)
    (instruction_sound s.format s.addresses s.length (instruction_at s.code (place_of p)))
    (is_zero_instruction (instruction_at s.code (place_of p))))

unfoldable pub sound_of : Net → Bool
sound_of s =
    both (in_range 1 s.format 2)
    (both (both (in_range 1 s.addresses 16) (in_range 1 s.length 512)) (both (nodes_sound s) (code_sound s)))
