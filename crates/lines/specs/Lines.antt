-- The lines of a register (document 01, "The register").
use Rattle.std.specs.Prelude.{ℕ, ◌+◌, List, [], ◌∷◌, ◌++◌, get_or, length, ltb}
use Rattle.text.specs.Bytes.{bytes}
use Rattle.text.specs.Joined.{joined}
use Rattle.net.specs.Choice.{choose, fold}
use Rattle.net.specs.Records.{field_at, tuple_at, node_at, address_of, process_count}
use Rattle.step.specs.Pick.{host_of, slot_of}
use Rattle.lines.specs.Types.{Locality, Item, Tuple, Node, Net, Fault}
use Rattle.lines.specs.Words.{Word, name, number, reading, address}
use Rattle.lines.specs.Shown.{Parts, Shown}

-- a count, or the size of its array where the count is larger, which no sound net's is
unfoldable pub fewer : ℕ → ℕ → ℕ
fewer count size = choose (ltb count size) count size

-- refused N: of a text by its number alone, of an image with the bit at which the field at fault begins (document 02, slip 2)
unfoldable pub refusal_line : ℕ → List Word
refusal_line n = name (bytes "refused") ∷ number n ∷ []

unfoldable pub place_words : Parts → Fault → List Word
place_words parts f = choose parts.place (name (bytes "at") ∷ number f.place ∷ []) []

unfoldable pub refused_line : Parts → Fault → List Word
refused_line parts f = name (bytes "refused") ∷ number f.number ∷ place_words parts f

-- net, the image's address count and code length
unfoldable pub net_line : ℕ → ℕ → List Word
net_line n k = name (bytes "net") ∷ number n ∷ number k ∷ []

-- pick, the pick's number, address, slot, answer
unfoldable pub pick_line : ℕ → Locality → ℕ → ℕ → List Word
pick_line i a k x = name (bytes "pick") ∷ number i ∷ number a.0 ∷ number k ∷ number x ∷ []

-- "`node` lines end with the name where there is one" (document 02, slip 14)
unfoldable pub name_words : List ℕ → List Word
name_words [] = []
name_words (b ∷ text) = name (b ∷ text) ∷ []

-- node, address, tuple count and busy slots, and the station's name
unfoldable pub node_line : List ℕ → Locality → ℕ → ℕ → List Word
node_line station a stored busy = name (bytes "node") ∷ number a.0 ∷ number stored ∷ number busy ∷ name_words station

-- a field of a tuple
unfoldable pub item_word : Item → Word
item_word (Item.Reading x) = reading x
item_word (Item.Address l) = address l

unfoldable pub field_words : Tuple → List Word
field_words t = joined (fewer t.count 4) (λ i. item_word (field_at t i) ∷ [])

-- from, and the address of the node that put the tuple (document 02, slip 8)
unfoldable pub mark_words : Parts → Tuple → List Word
mark_words parts t = choose parts.mark (name (bytes "from") ∷ number t.mark.0 ∷ []) []

-- tuple, address, fields and mark
unfoldable pub tuple_line : Parts → Locality → Tuple → List Word
tuple_line parts a t = name (bytes "tuple") ∷ number a.0 ∷ (field_words t ++ mark_words parts t)

-- a node's line, followed by its tuples, oldest first
unfoldable pub tuple_lines : Parts → Locality → Node → List (List Word)
tuple_lines parts a x = joined (fewer x.stored 16) (λ i. tuple_line parts a (tuple_at x i) ∷ [])

unfoldable pub node_lines : Parts → List ℕ → Locality → Node → List (List Word)
node_lines parts station a x = node_line station a x.stored (process_count x) ∷ tuple_lines parts a x

-- each address in use, ascending
unfoldable pub address_lines : Shown → Net → Locality → List (List Word)
address_lines shown s a = node_lines shown.parts (shown.names a) a (node_at s a)

unfoldable pub net_lines : Shown → Net → List (List Word)
net_lines shown s = joined (fewer s.addresses 16) (λ a. address_lines shown s (address_of a))

-- how many tuples stand at the first n addresses, and how many in the net
unfoldable pub tuples_below : Net → ℕ → ℕ
tuples_below s n = fold n (λ a count. count + fewer (node_at s (address_of a)).stored 16) 0

unfoldable pub tuple_count : Net → ℕ
tuple_count s = tuples_below s (fewer s.addresses 16)

-- total, and that number (document 02, slip 1)
unfoldable pub total_line : ℕ → List Word
total_line n = name (bytes "total") ∷ number n ∷ []

unfoldable pub closing_lines : Parts → Net → List (List Word)
closing_lines parts s = choose parts.total (total_line (tuple_count s) ∷ []) []

-- what a register says of a net: its nodes, and its total
unfoldable pub after_lines : Shown → Net → List (List Word)
after_lines shown s = net_lines shown s ++ closing_lines shown.parts s

-- each pick, numbered from 1, with its answer
unfoldable pub made_line : ℕ → ℕ → ℕ → List Word
made_line i b x = pick_line i (host_of b) (slot_of b) x

unfoldable pub pick_lines : List ℕ → List ℕ → List (List Word)
pick_lines picks answers = joined (length picks) (λ i. made_line (i + 1) (get_or picks i 0) (get_or answers i 0) ∷ [])
