-- What an image writes down (document 01, "The image, bit-packed, most significant bit first"): the bits of a net in
-- the order of the paper, and the bytes that hold them. Nothing here reads an image.
use Rattle.std.specs.Prelude.{ℕ, zero, suc, ◌+◌, ◌-◌, ◌*◌, ◌/◌, ◌%◌, Bool, true, false, List, [], ◌∷◌, ◌++◌, get_or, length, eqb, ℤ}
use Rattle.text.specs.Joined.{joined}
use Rattle.written.specs.Types.{Locality, Place, Item, Tuple, Rights, Row, Node}
use Rattle.written.specs.Types.{Target, Pattern, Action, Instruction, Net}
use Rattle.net.specs.Records.{field_at, rights_at, row_at, process_at, tuple_at, pattern_at, node_at, instruction_at, address_of, place_of}
use Rattle.net.specs.Records.{process_count}
use Rattle.net.specs.Choice.{choose}

-- ---- numbers

-- the last w binary digits of v, the most significant first
unfoldable pub bits_of : ℕ → ℕ → List Bool
bits_of zero v = []
bits_of (suc w) v = bits_of w (v / 2) ++ (eqb (v % 2) 1 ∷ [])

-- ---- fields that stand in several places
unfoldable pub address_bits : Locality → List Bool
address_bits l = bits_of 4 l.0

unfoldable pub place_bits : Place → List Bool
place_bits p = bits_of 9 p.0

unfoldable pub variable_bits : ℕ → List Bool
variable_bits v = bits_of 3 v

-- 32 bits of two's complement
unfoldable pub reading_bits : ℤ → List Bool
reading_bits (ℤ.pos v) = bits_of 32 v
reading_bits (ℤ.negsuc v) = bits_of 32 (4294967295 - v)

-- ---- 1. format, address count, code length
unfoldable pub header_bits : Net → List Bool
header_bits s = bits_of 4 s.format ++ (bits_of 5 s.addresses ++ bits_of 10 s.length)

-- ---- 2. a row: n, and for each of n addresses i, r, o, e
unfoldable pub rights_bits : Rights → List Bool
rights_bits r = r.take ∷ r.read ∷ r.put ∷ r.send ∷ []

unfoldable pub row_bits : ℕ → Row → List Bool
row_bits n r = r.create ∷ joined n (λ l. rights_bits (rights_at r (address_of l)))

-- the rows of a node: in format 1 the single one, which is that for every origin; in format 2 one for each of n origins,
-- ascending (document 02, slip 10)
unfoldable pub node_rows_bits : ℕ → ℕ → Node → List Bool
node_rows_bits f n x =
    choose (eqb f 1) (row_bits n (row_at x (address_of 0))) (joined n (λ o. row_bits n (row_at x (address_of o))))

-- ---- 3. the processes of a node: their number, then the first place of each
unfoldable pub processes_bits : Node → List Bool
processes_bits x = bits_of 3 (process_count x) ++ joined (process_count x) (λ i. place_bits (process_at x i).at)

-- ---- 4. the tuples of a node: their number, then each with its field count less one and its fields
unfoldable pub item_bits : Item → List Bool
item_bits (Item.Reading x) = false ∷ reading_bits x
item_bits (Item.Address l) = true ∷ address_bits l

unfoldable pub tuple_bits : Tuple → List Bool
tuple_bits t = bits_of 2 (t.count - 1) ++ joined t.count (λ i. item_bits (field_at t i))

unfoldable pub tuples_bits : Node → List Bool
tuples_bits x = bits_of 5 x.stored ++ joined x.stored (λ i. tuple_bits (tuple_at x i))

-- ---- 5. an instruction
unfoldable pub target_bits : Target → List Bool
target_bits (Target.Written l) = bits_of 2 0 ++ address_bits l
target_bits Target.Own = bits_of 2 1
target_bits (Target.Held v) = bits_of 2 2 ++ variable_bits v

unfoldable pub pattern_bits : Pattern → List Bool
pattern_bits (Pattern.Reading x) = bits_of 3 0 ++ reading_bits x
pattern_bits (Pattern.Address l) = bits_of 3 1 ++ address_bits l
pattern_bits Pattern.Own = bits_of 3 2
pattern_bits (Pattern.Held v) = bits_of 3 3 ++ variable_bits v
pattern_bits (Pattern.FormalReading v) = bits_of 3 4 ++ variable_bits v
pattern_bits (Pattern.FormalAddress v) = bits_of 3 5 ++ variable_bits v

unfoldable pub template_bits : Instruction → List Bool
template_bits c = bits_of 2 (c.count - 1) ++ joined c.count (λ i. pattern_bits (pattern_at c i))

-- an action, with the template of its instruction
unfoldable pub action_bits : Instruction → Action → List Bool
action_bits c Action.Stop = bits_of 3 0
action_bits c (Action.Out t p) = bits_of 3 1 ++ (target_bits t ++ (template_bits c ++ place_bits p))
action_bits c (Action.In t p) = bits_of 3 2 ++ (target_bits t ++ (template_bits c ++ place_bits p))
action_bits c (Action.Read t p) = bits_of 3 3 ++ (target_bits t ++ (template_bits c ++ place_bits p))
action_bits c (Action.Eval t sent p) = bits_of 3 4 ++ (target_bits t ++ (place_bits sent ++ place_bits p))
action_bits c (Action.New v p) = bits_of 3 5 ++ (variable_bits v ++ place_bits p)
action_bits c (Action.Fork p q) = bits_of 3 6 ++ (place_bits p ++ place_bits q)
action_bits c (Action.OutAll g p) = bits_of 3 7 ++ (bits_of 16 g.0 ++ (template_bits c ++ place_bits p))

unfoldable pub instruction_bits : Instruction → List Bool
instruction_bits c = action_bits c c.action

-- ---- 1 to 5, the whole
unfoldable pub rows_bits : Net → List Bool
rows_bits s = joined s.addresses (λ a. node_rows_bits s.format s.addresses (node_at s (address_of a)))

unfoldable pub all_processes_bits : Net → List Bool
all_processes_bits s = joined s.addresses (λ a. processes_bits (node_at s (address_of a)))

unfoldable pub all_tuples_bits : Net → List Bool
all_tuples_bits s = joined s.addresses (λ a. tuples_bits (node_at s (address_of a)))

unfoldable pub code_bits : Net → List Bool
code_bits s = joined s.length (λ p. instruction_bits (instruction_at s.code (place_of p)))

unfoldable pub net_bits : Net → List Bool
net_bits s = header_bits s ++ (rows_bits s ++ (all_processes_bits s ++ (all_tuples_bits s ++ code_bits s)))

-- ---- 6. bytes of eight bits each, the last one filled up with zero bits
unfoldable pub digit : Bool → ℕ
digit true = 1
digit false = 0

-- the number that the w bits from place p write; past the last bit stand zero bits
unfoldable pub number_in : List Bool → ℕ → ℕ → ℕ
number_in bits p zero = 0
number_in bits p (suc w) = number_in bits p w * 2 + digit (get_or bits (p + w) false)

unfoldable pub bytes_of : List Bool → List ℕ
bytes_of bits = joined ((length bits + 7) / 8) (λ i. number_in bits (8 * i) 8 ∷ [])

-- the image of a net
unfoldable pub image_of : Net → List ℕ
image_of s = bytes_of (net_bits s)
