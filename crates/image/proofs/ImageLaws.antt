-- What each turn of the image reader's loops comes to (`specs/Image.antt`), from what its parts came to.
-- Assumes nothing.
use Prim.Native.Nat.{ℕ}
use mathlib.Core.Path.{◌≡◌, refl, ap, ◌∙◌}
use mathlib.Core.List.{List}
use lib.ListN.{set}
use lib.Dec.{eqb}
use borrow.Author.Tests.{eq-eqb, ne_eqb}
use Rattle.std.proofs.Common.{Result, Ok, Err}
use Rattle.image.specs.Types.{BitReader, Fault, Locality, Place, Item, Tuple, Rights, Row, Process, Node, Instruction, Net}
use Rattle.net.specs.Choice.{choose}
use Rattle.net.specs.Records.{starting_at, node_at, alike, marked, with_rights, with_row, with_rows, with_process}
use Rattle.net.specs.Records.{with_tuple, with_node, with_instruction, empty_net, with_counts, with_format}
use Rattle.net.specs.Records.{address_of, place_of}
use Rattle.bitreader.specs.BitReader.{field, bits}
use Rattle.bitreader.specs.Fields.{place}
use Rattle.bitreader.specs.Progress.{Reads}
use Rattle.bitreader.proofs.ReadsLaws.{reads_pure, reads_pure_as, reads_then, reads_stop}
use Rattle.instructions.specs.Instruction.{instruction}
use Rattle.image.specs.Image.{each_address, rights_of, rights, row, single_row, row_from, node_rows, rows_of}
use Rattle.image.specs.Image.{process, processes, processes_of, tuple, stored, tuples, tuples_of, instruction_of}
use Rattle.readers.specs.Reader.{Reader, each}
use Rattle.image.specs.Progress.{placed}
use Rattle.net.proofs.Laws.{choose_true, choose_false}

-- what was lent counts for nothing after a fault
module _ {A B : Type 0} where
  pub not_placed : (r r' : BitReader) (m : Reader A) (o : Result B Fault) (a : A) (e : Fault) → o ≡ Err e → Reads r m (Err e) r'
      → Reads r m (placed o a) r'
  not_placed r r' m o a e d g = rw d g

-- ---- the header
pub header_net : (net : Net) (f n k : ℕ) → net ≡ empty_net
    → record { format = f; addresses = n; length = k; nodes = net.nodes; code = net.code } ≡ with_counts (with_format empty_net f) n k
unfolding with_counts with_format
header_net net f n k e = rw e refl

pub blank_net : (net : Net) → net ≡ empty_net → (net.addresses ≡ 0) × (net.length ≡ 0)
unfolding empty_net
blank_net net e = rw e (refl, refl)

module _ (r r' : BitReader) where
  -- ---- rows
  pub rights_turn : (v i : ℕ) (w : Row) (x : Rights) → Reads r (field 4 0 16 28) (Ok v) r' → x ≡ rights_of v
      → Reads r (rights (address_of i) w) (Ok (record { create = w.create; rights = set w.rights i x })) r'
  unfolding rights bits with_rights
  rights_turn v i w x g e = reads_then r r' r' _ _ v _ g (reads_pure_as r' _ _ (ap (λ (y : Rights). with_rights w (address_of i) y) e))

  pub rights_stop : (i : ℕ) (w : Row) (e : Fault) → Reads r (field 4 0 16 28) (Err e) r' → Reads r (rights (address_of i) w) (Err e) r'
  unfolding rights bits
  rights_stop i w e g = reads_stop r r' _ _ e g

  pub single_read : (f n : ℕ) (x : Node) (y : Row) (rs : List Row) → f ≡ 1 → Reads r (row n) (Ok y) r' → rs ≡ alike y
      → Reads r (node_rows f n x) (Ok (record { rows = rs; processes = x.processes; stored = x.stored; tuples = x.tuples })) r'
  unfolding node_rows single_row with_rows
  single_read f n x y rs h g e =
      rw (choose_true _ (single_row n x) (each_address n (row_from n) x) (eq-eqb f 1 h))
      (reads_then r r' r' _ _ y _ g (reads_pure_as r' _ _ (ap (with_rows x) e)))

  pub single_stop : (f n : ℕ) (x : Node) (e : Fault) → f ≡ 1 → Reads r (row n) (Err e) r' → Reads r (node_rows f n x) (Err e) r'
  unfolding node_rows single_row
  single_stop f n x e h g =
      rw (choose_true _ (single_row n x) (each_address n (row_from n) x) (eq-eqb f 1 h)) (reads_stop r r' _ _ e g)

  pub by_origin : (f n : ℕ) (x : Node) (o : Result Node Fault) → (f ≡ 1 → ⊥)
      → Reads r (each n (λ i. row_from n (address_of i)) x) o r' → Reads r (node_rows f n x) o r'
  unfolding node_rows each_address
  by_origin f n x o h g =
      rw (choose_false (eqb f 1) (single_row n x) (each_address n (row_from n) x) (ne_eqb f 1 h)) g

  pub row_turn : (n i : ℕ) (x : Node) (y : Row) → Reads r (row n) (Ok y) r'
      → Reads r (row_from n (address_of i) x) (Ok (record { rows = set x.rows i y; processes = x.processes; stored = x.stored; tuples = x.tuples })) r'
  unfolding row_from with_row with_rows
  row_turn n i x y g = reads_then r r' r' _ _ y _ g (reads_pure r' _)

  pub row_stop : (n i : ℕ) (x : Node) (e : Fault) → Reads r (row n) (Err e) r' → Reads r (row_from n (address_of i) x) (Err e) r'
  unfolding row_from
  row_stop n i x e g = reads_stop r r' _ _ e g

  pub rows_turn : (i : ℕ) (s : Net) (x : Node) → Reads r (node_rows s.format s.addresses (node_at s (address_of i))) (Ok x) r'
      → Reads r (rows_of (address_of i) s) (Ok (with_node s (address_of i) x)) r'
  unfolding rows_of
  rows_turn i s x g = reads_then r r' r' _ _ x _ g (reads_pure r' _)

  pub rows_stop : (i : ℕ) (s : Net) (e : Fault) → Reads r (node_rows s.format s.addresses (node_at s (address_of i))) (Err e) r'
      → Reads r (rows_of (address_of i) s) (Err e) r'
  unfolding rows_of
  rows_stop i s e g = reads_stop r r' _ _ e g

  -- ---- processes
  pub process_turn : (a : Locality) (k i : ℕ) (x : Node) (at : Place) (started : Process) → Reads r (place k) (Ok at) r'
      → started ≡ starting_at a at
      → Reads r (process a k i x) (Ok (record { rows = x.rows; processes = set x.processes i started; stored = x.stored; tuples = x.tuples })) r'
  unfolding process with_process
  process_turn a k i x at started g e = reads_then r r' r' _ _ at _ g (reads_pure_as r' _ _ (ap (with_process x i) e))

  pub process_stop : (a : Locality) (k i : ℕ) (x : Node) (e : Fault) → Reads r (place k) (Err e) r' → Reads r (process a k i x) (Err e) r'
  unfolding process
  process_stop a k i x e g = reads_stop r r' _ _ e g

  pub processes_turn : (i : ℕ) (s : Net) (x : Node) → Reads r (processes (address_of i) s.length (node_at s (address_of i))) (Ok x) r'
      → Reads r (processes_of (address_of i) s) (Ok (with_node s (address_of i) x)) r'
  unfolding processes_of
  processes_turn i s x g = reads_then r r' r' _ _ x _ g (reads_pure r' _)

  pub processes_stop : (i : ℕ) (s : Net) (e : Fault) → Reads r (processes (address_of i) s.length (node_at s (address_of i))) (Err e) r'
      → Reads r (processes_of (address_of i) s) (Err e) r'
  unfolding processes_of
  processes_stop i s e g = reads_stop r r' _ _ e g

  -- ---- tuples
  pub tuple_turn : (a : Locality) (n i : ℕ) (x y : Node) (t u : Tuple) → Reads r (tuple n) (Ok t) r' → u ≡ marked a t
      → y ≡ with_tuple x u → Reads r (stored a n i x) (Ok y) r'
  unfolding stored
  tuple_turn a n i x y t u g d e = reads_then r r' r' _ _ t _ g (reads_pure_as r' _ _ (e ∙ ap (with_tuple x) d))

  pub tuple_stop : (a : Locality) (n i : ℕ) (x : Node) (e : Fault) → Reads r (tuple n) (Err e) r' → Reads r (stored a n i x) (Err e) r'
  unfolding stored
  tuple_stop a n i x e g = reads_stop r r' _ _ e g

  -- by its sort
  pub item_reading : (k : ℕ) (m m' : Reader Item) (o : Result Item Fault) → k ≡ 0 → Reads r m o r' → Reads r (choose (eqb k 0) m m') o r'
  item_reading k m m' o h g = rw (choose_true _ m m' (eq-eqb k 0 h)) g

  pub item_address : (k : ℕ) (m m' : Reader Item) (o : Result Item Fault) → (k ≡ 0 → ⊥) → Reads r m' o r'
      → Reads r (choose (eqb k 0) m m') o r'
  item_address k m m' o h g = rw (choose_false (eqb k 0) m m' (ne_eqb k 0 h)) g

  pub tuples_turn : (i : ℕ) (s : Net) (x : Node) → Reads r (tuples (address_of i) s.addresses (node_at s (address_of i))) (Ok x) r'
      → Reads r (tuples_of (address_of i) s) (Ok (with_node s (address_of i) x)) r'
  unfolding tuples_of
  tuples_turn i s x g = reads_then r r' r' _ _ x _ g (reads_pure r' _)

  pub tuples_stop : (i : ℕ) (s : Net) (e : Fault) → Reads r (tuples (address_of i) s.addresses (node_at s (address_of i))) (Err e) r'
      → Reads r (tuples_of (address_of i) s) (Err e) r'
  unfolding tuples_of
  tuples_stop i s e g = reads_stop r r' _ _ e g

  -- ---- the code
  pub instruction_turn : (i : ℕ) (s : Net) (c : Instruction) → Reads r (instruction s.format s.addresses s.length) (Ok c) r'
      → Reads r (instruction_of (place_of i) s) (Ok (with_instruction s (place_of i) c)) r'
  unfolding instruction_of
  instruction_turn i s c g = reads_then r r' r' _ _ c _ g (reads_pure r' _)

  pub instruction_stop : (i : ℕ) (s : Net) (e : Fault) → Reads r (instruction s.format s.addresses s.length) (Err e) r'
      → Reads r (instruction_of (place_of i) s) (Err e) r'
  unfolding instruction_of
  instruction_stop i s e g = reads_stop r r' _ _ e g

-- with these `search` proves a turn, and the exit from one
pub ruleset turns = (rights_turn, rights_stop, single_read, single_stop, by_origin, row_turn, row_stop, process_turn, process_stop, tuple_turn, tuple_stop, not_placed)

pub ruleset of_nets = (rows_turn, rows_stop, processes_turn, processes_stop, tuples_turn, tuples_stop, instruction_turn, instruction_stop, not_placed)
