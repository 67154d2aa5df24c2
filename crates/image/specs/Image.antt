-- The image (document 01, "The image", "Numbers for an image"): the layout in the order of the paper, giving the net
-- that it writes down or its first fault, with the bit at which the field at fault begins (document 02, slip 2). In what
-- follows n is the address count and k the code length.
pub use Rattle.image.specs.declared.reader.Verdict.{Verdict}
pub use Rattle.image.specs.declared.reader.Opened.{Opened}
use Rattle.std.specs.Prelude.{ℕ, ◌+◌, ◌/◌, ◌%◌, Bool, List, eqb}
use Rattle.net.specs.Choice.{choose}
use Rattle.image.specs.Types.{Fault, Locality, Place, Item, Tuple, Rights, Row, Node, Instruction, Net}
use Rattle.net.specs.Records.{node_at, process_at, starting_at, zero_tuple, zero_row, empty_net, address_of, place_of}
use Rattle.net.specs.Records.{marked, with_field, with_rights, with_row, with_rows, with_process, with_tuple, with_node}
use Rattle.net.specs.Records.{alike, with_instruction, with_counts, with_format}
use Rattle.keeping.specs.Admission.{admits_process, admits}
use Rattle.readers.specs.Reader.{Parsed, got, fault, Reader, pure, ◌>>=◌, ◌>>◌, each, fault_at, tested}
use Rattle.bitreader.specs.BitReader.{field, bits}
use Rattle.bitreader.specs.Fields.{address, place, reading}
use Rattle.bitreader.specs.Ending.{ending}
use Rattle.instructions.specs.Instruction.{instruction}

-- ---- a turn for each of n addresses, and for each of k code places
unfoldable pub each_address : {A : Type 0} → ℕ → (Locality → A → Reader A) → A → Reader A
each_address n f a = each n (λ i. f (address_of i)) a

unfoldable pub each_place : {A : Type 0} → ℕ → (Place → A → Reader A) → A → Reader A
each_place k f a = each k (λ i. f (place_of i)) a

-- ---- 1. format, address count, code length
unfoldable pub header : Reader Net
header = do
  format ← field 4 1 3 21
  n ← field 5 1 17 22
  k ← field 10 1 513 22
  pure (with_counts (with_format empty_net format) n k)

-- ---- 2. for each address a row: n, and for each address i, r, o, e. "In format 2 each node has a row for every origin in use,
-- ascending, in place of its single row" (document 02, slip 10); in format 1 the single row is that for every origin
unfoldable pub is_set_bit : ℕ → ℕ → Bool
is_set_bit v unit = eqb (v / unit % 2) 1

unfoldable pub rights_of : ℕ → Rights
rights_of v = record { take = is_set_bit v 8; read = is_set_bit v 4; put = is_set_bit v 2; send = is_set_bit v 1 }

unfoldable pub creating : ℕ → Row
creating v = record { create = eqb v 1; rights = zero_row.rights }

unfoldable pub rights : Locality → Row → Reader Row
rights l r = do
  v ← bits 4
  pure (with_rights r l (rights_of v))

unfoldable pub row : ℕ → Reader Row
row n = do
  v ← bits 1
  each_address n rights (creating v)

unfoldable pub single_row : ℕ → Node → Reader Node
single_row n x = do
  r ← row n
  pure (with_rows x (alike r))

unfoldable pub row_from : ℕ → Locality → Node → Reader Node
row_from n o x = do
  r ← row n
  pure (with_row x o r)

unfoldable pub node_rows : ℕ → ℕ → Node → Reader Node
node_rows f n x = choose (eqb f 1) (single_row n x) (each_address n (row_from n) x)

unfoldable pub rows_of : Locality → Net → Reader Net
rows_of a s = do
  x ← node_rows s.format s.addresses (node_at s a)
  pure (with_node s a x)

unfoldable pub rows : Net → Reader Net
rows s = each_address s.addresses rows_of s

-- ---- 3. for each address its processes, which fill slots 0 upward; each has its own node as origin (document 02, slip 10)
unfoldable pub process : Locality → ℕ → ℕ → Node → Reader Node
process a k slot x = do
  p ← place k
  pure (with_process x slot (starting_at a p))

unfoldable pub processes : Locality → ℕ → Node → Reader Node
processes a k x = do
  count ← field 3 0 5 22
  each count (process a k) x

unfoldable pub processes_of : Locality → Net → Reader Net
processes_of a s = do
  x ← processes a s.length (node_at s a)
  pure (with_node s a x)

unfoldable pub all_processes : Net → Reader Net
all_processes s = each_address s.addresses processes_of s

-- ---- 4. for each address its tuples, oldest first
unfoldable pub reading_item : Reader Item
reading_item = do
  x ← reading
  pure (Item.Reading x)

unfoldable pub address_item : ℕ → Reader Item
address_item n = do
  l ← address n
  pure (Item.Address l)

unfoldable pub item : ℕ → Reader Item
item n = do
  sort ← bits 1
  choose (eqb sort 0) reading_item (address_item n)

unfoldable pub tupleField : ℕ → ℕ → Tuple → Reader Tuple
tupleField n i t = do
  x ← item n
  pure (with_field t (record { item = x }))

unfoldable pub tuple : ℕ → Reader Tuple
tuple n = do
  less ← bits 2
  each (less + 1) (tupleField n) zero_tuple

-- each bears its own node's address (document 02, slip 8)
unfoldable pub stored : Locality → ℕ → ℕ → Node → Reader Node
stored a n i x = do
  t ← tuple n
  pure (with_tuple x (marked a t))

unfoldable pub tuples : Locality → ℕ → Node → Reader Node
tuples a n x = do
  count ← field 5 0 17 22
  each count (stored a n) x

unfoldable pub tuples_of : Locality → Net → Reader Net
tuples_of a s = do
  x ← tuples a s.addresses (node_at s a)
  pure (with_node s a x)

unfoldable pub all_tuples : Net → Reader Net
all_tuples s = each_address s.addresses tuples_of s

-- ---- 5. for each code place its instruction
unfoldable pub instruction_of : Place → Net → Reader Net
instruction_of p s = do
  c ← instruction s.format s.addresses s.length
  pure (with_instruction s p c)

unfoldable pub code : Net → Reader Net
code s = each_place s.length instruction_of s

-- ---- the whole, part after part; 6 is `ending`
unfoldable pub layout : Reader Net
layout = do
  s₁ ← header
  s₂ ← rows s₁
  s₃ ← all_processes s₂
  s₄ ← all_tuples s₃
  s₅ ← code s₄
  ending
  pure s₅

-- ---- 30: the starting places again, in image order, up to the first whose process, in slot `slot` of the node x at address a,
-- does not keep within its row
unfoldable pub entry : ℕ → List Instruction → Locality → Node → ℕ → Unit {0} → Reader (Unit {0})
entry k code a x slot u = do
  p ← tested 9 (place k) (λ p. admits_process code x a (process_at x slot)) 30
  pure tt

unfoldable pub entries : ℕ → List Instruction → Locality → Node → Reader (Unit {0})
entries k code a x = do
  count ← field 3 0 5 22
  each count (entry k code a x) tt

unfoldable pub entries_of : Net → Locality → Unit {0} → Reader (Unit {0})
entries_of s a u = entries s.length s.code a (node_at s a)

unfoldable pub all_entries : Net → Reader (Unit {0})
all_entries s = do
  s₁ ← header
  s₂ ← rows s₁
  each_address s₁.addresses (entries_of s) tt

-- where reading came to, or the place of its fault
unfoldable pub end_of : {A : Type 0} → Parsed A → ℕ
end_of (got a p) = p
end_of (fault f) = f.place

unfoldable pub beyond_row : List ℕ → Net → Fault
beyond_row image s = fault_at 30 (end_of (all_entries s image 0)) 9

-- ---- what an image gives
unfoldable pub refused : Fault → Opened
refused f = record { answer = Verdict.Refused f; net = empty_net }

unfoldable pub accepted : Net → Opened
accepted s = record { answer = Verdict.Accepted; net = s }

-- whether the starting processes keep within the rows of their nodes is judged once 21 to 29 are absent
unfoldable pub judged_net : List ℕ → Parsed Net → Opened
judged_net image (got s p) = choose (admits s) (accepted s) (refused (beyond_row image s))
judged_net image (fault f) = refused f

-- what an image gives: the net that it writes down, or its first fault and the empty net
unfoldable pub opened_of : List ℕ → Opened
opened_of image = judged_net image (layout image 0)

-- the paper's number of a verdict; 0 where the image is accepted
unfoldable pub number_of : Verdict → ℕ
number_of Verdict.Accepted = 0
number_of (Verdict.Refused f) = f.number

-- the bit at which the field at fault begins; 0 where the image is accepted
unfoldable pub place_of_fault : Verdict → ℕ
place_of_fault Verdict.Accepted = 0
place_of_fault (Verdict.Refused f) = f.place
