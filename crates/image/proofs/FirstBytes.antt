-- The layout of an image (`specs/Image.antt`) takes at most 117,987 bits in format 1 and 138,707 in format 2, a bound for
-- each of its parts, and looks at no further byte than the one behind them. Assumes nothing.
use Prim.Native.Nat.{ℕ, ◌+◌, ◌*◌, ◌≤◌}
use mathlib.Core.Path.{◌≡◌, refl, sym, ap, ◌∙◌}
use mathlib.Core.Bool.{Bool, true, false}
use mathlib.Core.List.{List}
use native.Mathlib.Nat.{mul-le-mul_left}
use native.Mathlib.Omega.{arith}
use lib.Dec.{eqb}
use lib.ListN.{length}
use Rattle.net.specs.Choice.{choose}
use Rattle.readers.specs.Reader.{Parsed, got, fault, Reader, pure, and_then, ◌>>=◌, ◌>>◌}
use Rattle.image.specs.Types.{Locality, Place, Tuple, Row, Node, Instruction, Net}
use Rattle.net.specs.Records.{with_node, with_instruction, with_counts, with_format, address_of, place_of}
use Rattle.image.specs.Image.{each_address, each_place, header, rights, row, single_row, row_from, node_rows, rows_of, rows}
use Rattle.image.specs.Image.{entry, entries, entries_of, all_entries}
use Rattle.image.specs.Image.{process, processes, processes_of, all_processes, reading_item, address_item, item}
use Rattle.image.specs.Image.{tupleField, tuple, stored, tuples, tuples_of, all_tuples, instruction_of, code, layout}
use Rattle.bitreader.specs.Ending.{ending}
use Rattle.bitreader.proofs.Budget.{Within, Closes, Anything, any, widen, pure_within, bind, gives, bind_closes, closes_pure}
use Rattle.bitreader.proofs.Budget.{each_within, choose_within, field_within, bits_within, tested_within}
use Rattle.readers.proofs.ReaderLaws.{no_fault, same_value}
use Rattle.bitreader.proofs.FieldsWithin.{address_within, place_within, reading_within}
use Rattle.bitreader.proofs.EndingLaws.{ending_closes}
use Rattle.instructions.specs.Instruction.{instruction}
use Rattle.instructions.proofs.InstructionWithin.{instruction_bits, instruction_bits_most, instruction_within}

-- the format of a net, and its counts as the header admits them
record Counted (f : ℕ) (s : Net) : Type 0 where
  format_is : s.format ≡ f
  addresses : s.addresses ≤ 16
  instructions : s.length ≤ 512

-- ---- 1. format, address count, code length
header_within : Within header 19 (λ s. Counted s.format s)
unfolding header with_counts with_format
header_within =
    bind (field_within _ _ _ _) (λ format f.
    bind (field_within _ _ _ _) (λ n g.
    bind (field_within _ _ _ _) (λ k h.
    pure_within _ (record { format_is = refl; addresses = omega arith; instructions = omega arith }))))

-- ---- 2. rows
rights_within : (l : Locality) (r : Row) → Within (rights l r) 4 Anything
unfolding rights
rights_within l r = gives _ (bits_within _)

row_within : (n : ℕ) → n ≤ 16 → Within (row n) (1 + 16 * 4) Anything
unfolding row each_address
row_within n l = bind (bits_within _) (λ v h. each_within _ l any (λ i r g. rights_within (address_of i) r))

-- how many bits the rows of a node take at most: of one row, or of 16
unfoldable pub row_bits : ℕ → ℕ
row_bits f = choose (eqb f 1) 65 (16 * 65)

row_bits_most : (f : ℕ) → row_bits f ≤ 16 * 65
unfolding row_bits choose
row_bits_most f = by (eqb f 1)
  where
    by : (b : Bool) → choose b 65 (16 * 65) ≤ 16 * 65
    by true = omega arith
    by false = omega arith

single_row_within : (n : ℕ) (x : Node) → n ≤ 16 → Within (single_row n x) 65 Anything
unfolding single_row
single_row_within n x l = gives _ (row_within n l)

row_from_within : (n : ℕ) (o : Locality) (x : Node) → n ≤ 16 → Within (row_from n o x) 65 Anything
unfolding row_from
row_from_within n o x l = gives _ (row_within n l)

node_rows_within : (f g n : ℕ) (x : Node) → g ≡ f → n ≤ 16 → Within (node_rows g n x) (row_bits f) Anything
unfolding node_rows row_bits each_address choose
node_rows_within f g n x e l = rw e (by (eqb f 1))
  where
    by : (b : Bool) → Within (choose b (single_row n x) (each_address n (row_from n) x)) (choose b 65 (16 * 65)) Anything
    by true = single_row_within n x l
    by false = each_within x l any (λ i y g. row_from_within n (address_of i) y l)

-- a turn that replaces one node keeps the format and the counts
node_kept : (f : ℕ) (s : Net) → Counted f s → (a : Locality) (x : Node) → Counted f (with_node s a x)
unfolding with_node
node_kept f s c a x = record { format_is = c.format_is; addresses = c.addresses; instructions = c.instructions }

rows_of_within : (f : ℕ) (a : Locality) (s : Net) → Counted f s → Within (rows_of a s) (row_bits f) (Counted f)
unfolding rows_of
rows_of_within f a s c =
    widen (omega arith)
    (bind (node_rows_within f _ _ _ c.format_is c.addresses) (λ x h. pure_within _ (node_kept f s c a x)))

rows_within : (f : ℕ) (s : Net) → Counted f s → Within (rows s) (16 * row_bits f) (Counted f)
unfolding rows each_address
rows_within f s c = each_within s c.addresses c (λ i. rows_of_within f (address_of i))

-- in either format
rows_most : (f : ℕ) (s : Net) → Counted f s → Within (rows s) (16 * (16 * 65)) (Counted f)
rows_most f s c = widen (mul-le-mul_left 16 (row_bits_most f)) (rows_within f s c)

-- ---- 3. processes
process_within : (a : Locality) (k slot : ℕ) (x : Node) → Within (process a k slot x) 9 Anything
unfolding process
process_within a k slot x = gives _ (place_within k)

processes_within : (a : Locality) (k : ℕ) (x : Node) → Within (processes a k x) (3 + 4 * 9) Anything
unfolding processes
processes_within a k x =
    bind (field_within _ _ _ _) (λ count h. each_within {n = 4} x (omega arith) any (λ i y g. process_within a k i y))

processes_of_within : (f : ℕ) (a : Locality) (s : Net) → Counted f s → Within (processes_of a s) 39 (Counted f)
unfolding processes_of
processes_of_within f a s c = bind (processes_within a _ _) (λ x h. pure_within _ (node_kept f s c a x))

all_processes_within : (f : ℕ) (s : Net) → Counted f s → Within (all_processes s) (16 * 39) (Counted f)
unfolding all_processes each_address
all_processes_within f s c = each_within s c.addresses c (λ i. processes_of_within f (address_of i))

-- the entries again
entry_within : (k : ℕ) (code : List Instruction) (a : Locality) (x : Node) (slot : ℕ) (u : Unit {0})
    → Within (entry k code a x slot u) 9 Anything
unfolding entry
entry_within k code a x slot u = gives _ (tested_within 9 _ 30 (place_within k))

entries_within : (k : ℕ) (code : List Instruction) (a : Locality) (x : Node) → Within (entries k code a x) (3 + 4 * 9) Anything
unfolding entries
entries_within k code a x =
    bind (field_within _ _ _ _) (λ count h. each_within {n = 4} tt (omega arith) any (λ i u g. entry_within k code a x i u))

entries_of_within : (s : Net) (a : Locality) (u : Unit {0}) → Within (entries_of s a u) 39 Anything
unfolding entries_of
entries_of_within s a u = entries_within _ _ _ _

pub all_entries_within : (s : Net) → Within (all_entries s) (19 + (16 * (16 * 65) + 16 * 39)) Anything
unfolding all_entries each_address
all_entries_within s =
    bind header_within (λ s₁ c.
    bind (rows_most _ s₁ c) (λ s₂ d.
    each_within tt c.addresses any (λ i u g. entries_of_within s (address_of i) u)))

-- ---- 4. tuples
reading_item_within : Within reading_item 32 Anything
unfolding reading_item
reading_item_within = gives _ reading_within

address_item_within : (n : ℕ) → Within (address_item n) 4 Anything
unfolding address_item
address_item_within n = gives _ (address_within n)

item_within : (n : ℕ) → Within (item n) (1 + 32) Anything
unfolding item
item_within n =
    bind (bits_within _) (λ sort h.
    choose_within _ reading_item_within (widen (omega arith) (address_item_within n)))

tuple_field_within : (n i : ℕ) (t : Tuple) → Within (tupleField n i t) 33 Anything
unfolding tupleField
tuple_field_within n i t = gives _ (item_within n)

tuple_within : (n : ℕ) → Within (tuple n) (2 + 4 * 33) Anything
unfolding tuple
tuple_within n =
    bind (bits_within _) (λ less h. each_within {n = 4} _ (omega arith) any (λ i t g. tuple_field_within n i t))

stored_within : (a : Locality) (n i : ℕ) (x : Node) → Within (stored a n i x) 134 Anything
unfolding stored
stored_within a n i x = gives _ (tuple_within n)

tuples_within : (a : Locality) (n : ℕ) (x : Node) → Within (tuples a n x) (5 + 16 * 134) Anything
unfolding tuples
tuples_within a n x =
    bind (field_within _ _ _ _) (λ count h. each_within {n = 16} x (omega arith) any (λ i y g. stored_within a n i y))

tuples_of_within : (f : ℕ) (a : Locality) (s : Net) → Counted f s → Within (tuples_of a s) 2149 (Counted f)
unfolding tuples_of
tuples_of_within f a s c = bind (tuples_within _ _ _) (λ x h. pure_within _ (node_kept f s c a x))

all_tuples_within : (f : ℕ) (s : Net) → Counted f s → Within (all_tuples s) (16 * 2149) (Counted f)
unfolding all_tuples each_address
all_tuples_within f s c = each_within s c.addresses c (λ i. tuples_of_within f (address_of i))

-- ---- 5. instructions
instruction_in_within : (f g n k : ℕ) → g ≡ f → Within (instruction g n k) (instruction_bits f) Anything
instruction_in_within f g n k e = rw e (instruction_within f n k)

instruction_of_within : (f : ℕ) (p : Place) (s : Net) → Counted f s → Within (instruction_of p s) (instruction_bits f) (Counted f)
unfolding instruction_of with_instruction
instruction_of_within f p s c =
    widen (omega arith)
    (bind (instruction_in_within f _ _ _ c.format_is) (λ x h.
    pure_within _ (record { format_is = c.format_is; addresses = c.addresses; instructions = c.instructions })))

code_within : (f : ℕ) (s : Net) → Counted f s → Within (code s) (512 * instruction_bits f) (Counted f)
unfolding code each_place
code_within f s c = each_within s c.instructions c (λ i. instruction_of_within f (place_of i))

-- in either format
code_most : (f : ℕ) (s : Net) → Counted f s → Within (code s) (512 * 170) (Counted f)
code_most f s c = widen (mul-le-mul_left 512 (instruction_bits_most f)) (code_within f s c)

-- ---- the whole
-- how many bits may follow the header where the rows of a node take b and an instruction c, and 8 more that would hold a
-- further byte
abbrev pub after_header : ℕ → ℕ → ℕ
after_header b c = 16 * b + (16 * 39 + (16 * 2149 + (512 * c + 8)))

-- in either format
pub layout_closes : Closes layout (19 + after_header (16 * 65) 170)
unfolding layout
layout_closes =
    bind_closes header_within (λ s₁ c₁.
    bind_closes (rows_most _ s₁ c₁) (λ s₂ c₂.
    bind_closes (all_processes_within _ s₂ c₂) (λ s₃ c₃.
    bind_closes (all_tuples_within _ s₃ c₃) (λ s₄ c₄.
    bind_closes (code_most _ s₄ c₄) (λ s₅ c₅.
    closes_pure ending_closes s₅)))))

-- ---- by the format: m comes out well only with a net of format f, and only where the image ends within b bits
record Fills (f : ℕ) (m : Reader Net) (b : ℕ) : Type 0 where
  fills : (s : List ℕ) (p : ℕ) (x : Net) (q : ℕ) → m s p ≡ got x q → (x.format ≡ f) × (8 * length s ≤ p + b)

fills_then : {A : Type 0} {P : A → Type 0} {m : Reader A} {k : A → Reader Net} {f b c : ℕ} → Within m b P
    → ((a : A) → P a → Fills f (k a) c) → Fills f (m >>= k) (b + c)
unfolding ◌>>=◌ and_then
fills_then {A} {m} {k} {f} {b} {c} w v = record { fills = λ s p x q. by s p x q (m s p) refl }
  where
    by : (s : List ℕ) (p : ℕ) (x : Net) (q : ℕ) (o : Parsed A) → m s p ≡ o → and_then o s k ≡ got x q
        → (x.format ≡ f) × (8 * length s ≤ p + (b + c))
    by s p x q (got a r) d e =
        let (l, h) = w.ends s p a r d in
        let (g, n) = (v a h).fills s r x q e in
        (g, omega arith)
    by s p x q (fault g) d e = no_fault e

fills_end : (f : ℕ) (y : Net) → y.format ≡ f → Fills f (ending >> pure y) 8
unfolding ◌>>◌ ◌>>=◌ and_then pure
fills_end f y h = record { fills = λ s p x q e. (by s p x q (ending s p) e, (closes_pure ending_closes y).fills s p x q e) }
  where
    by : (s : List ℕ) (p : ℕ) (x : Net) (q : ℕ) (o : Parsed (Unit {0})) → and_then o s (λ u. pure y) ≡ got x q → x.format ≡ f
    by s p x q (got u r) e = ap (λ (z : Net). z.format) (sym (same_value e)) ∙ h
    by s p x q (fault g) e = no_fault e

-- after a reader of the format, which is then that of the net
fills_by : {m : Reader Net} {k : Net → Reader Net} {c : ℕ} {P : Net → Type 0} (b : ℕ → ℕ) → Within m c P
    → ((a : Net) → P a → Fills a.format (k a) (b a.format))
    → (s : List ℕ) (x : Net) (q : ℕ) → (m >>= k) s 0 ≡ got x q → 8 * length s ≤ c + b x.format
unfolding ◌>>=◌ and_then
fills_by {m} {k} {c} b w v s x q = by (m s 0) refl
  where
    by : (o : Parsed Net) → m s 0 ≡ o → and_then o s k ≡ got x q → 8 * length s ≤ c + b x.format
    by (got a r) d e =
        let (l, h) = w.ends s 0 a r d in
        let (g, n) = (v a h).fills s r x q e in
        rw g (omega arith)
    by (fault g) d e = no_fault e

pub layout_fills : (s : List ℕ) (x : Net) (q : ℕ) → layout s 0 ≡ got x q
    → 8 * length s ≤ 19 + after_header (row_bits x.format) (instruction_bits x.format)
unfolding layout
layout_fills =
    fills_by (λ f. after_header (row_bits f) (instruction_bits f)) header_within (λ s₁ c₁.
    fills_then (rows_within _ s₁ c₁) (λ s₂ c₂.
    fills_then (all_processes_within _ s₂ c₂) (λ s₃ c₃.
    fills_then (all_tuples_within _ s₃ c₃) (λ s₄ c₄.
    fills_then (code_within _ s₄ c₄) (λ s₅ c₅.
    fills_end _ s₅ c₅.format_is)))))
