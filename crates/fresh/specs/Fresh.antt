-- Nets as an image can write them (document 01, "The net", "The image", "Numbers for an image"): sound, with the
-- processes of each node in slots 0 upward and every variable unset, each process with its own node as origin and each tuple
-- with its own node's mark, and each starting process within its row.
use Rattle.std.specs.Prelude.{ℕ, Bool, true, not, length, eqb, ltb, ℤ}
use Rattle.net.specs.Choice.{choose, both, implies, all}
use Rattle.net.specs.Records.{field_at, row_at, process_at, tuple_at, pattern_at, node_at, instruction_at, address_of, place_of, process_count}
use Rattle.sound.specs.Soundness.{all_unset, sound_of}
use Rattle.fresh.specs.Types.{Locality, Item, Tuple, Row, Process, Node, Pattern, Action, Instruction, Net}
use Rattle.keeping.specs.Admission.{admits}

-- ---- what the types of a running program fix and the definitions' lists and whole numbers do not: readings of 32
-- bits, sets of 16, and the length of each array ("The net")
unfoldable pub reading_fits : ℤ → Bool
reading_fits (ℤ.pos v) = ltb v 2147483648
reading_fits (ℤ.negsuc v) = ltb v 2147483648

unfoldable pub item_fits : Item → Bool
item_fits (Item.Reading x) = reading_fits x
item_fits (Item.Address l) = true

unfoldable pub pattern_fits : Pattern → Bool
pattern_fits (Pattern.Reading x) = reading_fits x
pattern_fits (Pattern.Address l) = true
pattern_fits Pattern.Own = true
pattern_fits (Pattern.Held v) = true
pattern_fits (Pattern.FormalReading v) = true
pattern_fits (Pattern.FormalAddress v) = true

unfoldable pub tuple_fits : Tuple → Bool
tuple_fits t = both (eqb (length t.fields) 4) (all 4 (λ i. item_fits (field_at t i)))

unfoldable pub process_fits : Process → Bool
process_fits p = eqb (length p.variables) 8

unfoldable pub row_fits : Row → Bool
row_fits r = eqb (length r.rights) 16

unfoldable pub node_fits : Node → Bool
node_fits x =
    both (both (eqb (length x.rows) 16) (all 16 (λ o. row_fits (row_at x (address_of o)))))
    (both (both (eqb (length x.processes) 4) (all 4 (λ i. process_fits (process_at x i))))
    (both (eqb (length x.tuples) 16) (all 16 (λ i. tuple_fits (tuple_at x i)))))

-- a set has 16 bits
unfoldable pub action_fits : Action → Bool
action_fits Action.Stop = true
action_fits (Action.Out t p) = true
action_fits (Action.In t p) = true
action_fits (Action.Read t p) = true
action_fits (Action.Eval t sent p) = true
action_fits (Action.New v p) = true
action_fits (Action.Fork p q) = true
action_fits (Action.OutAll g p) = ltb g.0 65536

unfoldable pub instruction_fits : Instruction → Bool
instruction_fits c =
    both (action_fits c.action) (both (eqb (length c.template) 4) (all 4 (λ i. pattern_fits (pattern_at c i))))

unfoldable pub net_fits : Net → Bool
net_fits s =
    both (both (eqb (length s.nodes) 16) (all 16 (λ a. node_fits (node_at s (address_of a)))))
    (both (eqb (length s.code) 512) (all 512 (λ p. instruction_fits (instruction_at s.code (place_of p)))))

-- ---- "They fill slots 0 upward" ("The image", 3); "8 variables for each process, all unset at the start" ("The net")

-- busy below the process count and free from it on, every variable unset
unfoldable pub slot_starts : Node → ℕ → Bool
slot_starts x i =
    both (choose (ltb i (process_count x)) (process_at x i).busy (not (process_at x i).busy))
    (all_unset (process_at x i))

unfoldable pub node_starts : Node → Bool
node_starts x = all 4 (slot_starts x)

-- ---- "a starting process has its own node as origin" (document 02, slip 10)
unfoldable pub own_origin : Locality → Node → ℕ → Bool
own_origin a x i = implies (process_at x i).busy (eqb (process_at x i).origin.0 a.0)

unfoldable pub own_origins : Locality → Node → Bool
own_origins a x = all 4 (own_origin a x)

-- ---- "tuples of an image carry their own node's address" (document 02, slip 8)
unfoldable pub own_mark : Locality → Node → ℕ → Bool
own_mark a x i = implies (ltb i x.stored) (eqb (tuple_at x i).mark.0 a.0)

unfoldable pub own_marks : Locality → Node → Bool
own_marks a x = all 16 (own_mark a x)

-- the node at address a stands as an image starts it
unfoldable pub starts_at : Net → Locality → Bool
starts_at s a = both (node_starts (node_at s a)) (both (own_origins a (node_at s a)) (own_marks a (node_at s a)))

-- ---- the whole: counts, addresses, places and variables in range, rules 26 and 27, zero or unset elsewhere (sound),
-- processes and tuples as they start, and rule 30
unfoldable pub fresh_of : Net → Bool
fresh_of s = both (net_fits s) (both (sound_of s) (both (all 16 (λ a. starts_at s (address_of a))) (admits s)))
