-- What the readers of a node give (`Image.antt` of `image`, 2 to 4): sound rows, sound processes in its slots and sound
-- tuples up to its count, as facts (`NodeFacts.antt` of `sound`). The node under construction is sound at all times.
-- Assumes nothing.
use Prim.Native.Nat.{ℕ, suc, ◌+◌, ◌<◌}
use mathlib.Core.Path.{◌≡◌, refl, sym, ◌∙◌}
use mathlib.Core.Bool.{true, false}
use native.Mathlib.Omega.{arith}
use lib.Dec.{eqb}
use borrow.Author.Tests.{lt-ltb}
use Rattle.accepted.specs.Types.{Locality, Tuple, Row, Node}
use Rattle.net.specs.Records.{zero_tuple, marked, address_of, with_rights, with_row}
use Rattle.sound.specs.Soundness.{item_sound}
use Rattle.image.specs.Image.{each_address, creating, rights_of, rights, row, single_row, row_from, node_rows}
use Rattle.bitreader.specs.Fields.{address, reading}
use Rattle.bitreader.specs.Fields.{place, variable}
use Rattle.image.specs.Image.{process, processes}
use Rattle.image.specs.Image.{reading_item, address_item, item, tupleField, tuple, stored, tuples}
use Rattle.net.proofs.Every.{chosen, filled_set}
use Rattle.net.proofs.ReadingLaws.{never}
use Rattle.sound.proofs.NodeFacts.{TupleOk, RowOk, NodeOk}
use Rattle.sound.proofs.NodeChanges.{Filling, no_field, next_field, all_fields, zero_row_law, alike_rows, other_row, runs, starting}
use Rattle.sound.proofs.NodeChanges.{with_rows_law, with_process_law, with_tuple_law}
use Rattle.accepted.proofs.Gives.{Gives, gives_pure, gives_weaken, gives_then, gives_each, gives_choice}
use Rattle.accepted.proofs.Gives.{gives_field, gives_bits}

-- ---- fields that stand in several places
pub gives_address : (n : ℕ) → Gives (address n) (λ l. l.0 < n)
unfolding address
gives_address n = gives_then (gives_field 4 0 n 23 (omega arith)) (λ l h. gives_pure _ _ h.below)

pub gives_place : (k : ℕ) → Gives (place k) (λ p. p.0 < k)
unfolding place
gives_place k = gives_then (gives_field 9 0 k 24 (omega arith)) (λ p h. gives_pure _ _ h.below)

pub gives_variable : Gives variable (λ v. v < 8)
unfolding variable
gives_variable = gives_bits 3

pub gives_reading : Gives reading (λ x. Unit {0})
unfolding reading
gives_reading = gives_then (gives_bits 32) (λ v h. gives_pure _ _ tt)

-- ---- 2. a row: no right past the addresses
creating_ok : (n v : ℕ) → RowOk n (creating v)
unfolding creating
creating_ok n v = zero_row_law n

gives_rights : (n : ℕ) (l : Locality) (r : Row) → l.0 < n → RowOk n r → Gives (rights l r) (RowOk n)
unfolding rights with_rights
gives_rights n l r h ok = gives_then (gives_bits 4) (λ v _. gives_pure _ _ (filled_set l.0 (rights_of v) h tt ok))

gives_row : (n : ℕ) → Gives (row n) (RowOk n)
unfolding row each_address
gives_row n =
    gives_then (gives_bits 1)
    (λ v _. gives_each (λ i. RowOk n) n (λ i. rights (address_of i)) (λ i h r ok. gives_rights n (address_of i) r h ok) _
    (creating_ok n v))

-- the rows of a node: in format 1 one for every origin, in format 2 one for each origin in use
gives_single_row : (f n k : ℕ) (x : Node) → eqb f 1 ≡ true → NodeOk f n k x → Gives (single_row n x) (NodeOk f n k)
unfolding single_row
gives_single_row f n k x e ok =
    gives_then (gives_row n)
    (λ r h. gives_pure _ _ (with_rows_law f n k x ok _ (alike_rows f n r h (λ d. never (sym d ∙ e)))))

gives_row_from :
    (f n k : ℕ) (o : Locality) (x : Node) → eqb f 1 ≡ false → o.0 < n → NodeOk f n k x → Gives (row_from n o x) (NodeOk f n k)
unfolding row_from with_row
gives_row_from f n k o x e l ok =
    gives_then (gives_row n)
    (λ r h. gives_pure _ _ (with_rows_law f n k x ok _ (other_row f n x.rows o.0 r e l h ok.rows_ok)))

pub gives_node_rows : (f n k : ℕ) (x : Node) → NodeOk f n k x → Gives (node_rows f n x) (NodeOk f n k)
unfolding node_rows each_address
gives_node_rows f n k x ok =
    chosen (λ m. Gives m (NodeOk f n k)) (eqb f 1) _ _
    (λ e. gives_single_row f n k x e ok)
    (λ e. gives_each (λ i. NodeOk f n k) n (λ o. row_from n (address_of o)) (λ o h y. gives_row_from f n k (address_of o) y e h) x ok)

-- ---- 3. processes
gives_process :
    (f n k : ℕ) (a : Locality) → a.0 < n → (i : ℕ) (x : Node) → NodeOk f n k x → Gives (process a k i x) (NodeOk f n k)
unfolding process
gives_process f n k a m i x ok =
    gives_then (gives_place k)
    (λ p h. gives_pure _ _ (with_process_law f n k x ok i _ (runs n k _ (starting n k a p m h))))

pub gives_processes : (f n k : ℕ) (a : Locality) (x : Node) → a.0 < n → NodeOk f n k x → Gives (processes a k x) (NodeOk f n k)
unfolding processes
gives_processes f n k a x m ok =
    gives_then (gives_field 3 0 5 22 (omega arith))
    (λ count _. gives_each (λ i. NodeOk f n k) count (process a k) (λ i h. gives_process f n k a m i) x ok)

-- ---- 4. tuples
gives_item : (n : ℕ) → Gives (item n) (λ x. item_sound n x ≡ true)
unfolding item reading_item address_item item_sound
gives_item n =
    gives_then (gives_bits 1)
    (λ sort _. gives_choice _ (eqb sort 0) _ _
    (gives_then gives_reading (λ x _. gives_pure _ _ refl))
    (gives_then (gives_address n) (λ l h. gives_pure _ _ (lt-ltb l.0 n h))))

gives_tuple_field : (n i : ℕ) (t : Tuple) → i < 4 → Filling n i t → Gives (tupleField n i t) (Filling n (suc i))
unfolding tupleField
gives_tuple_field n i t h ok = gives_then (gives_item n) (λ x s. gives_pure _ _ (next_field n i t _ h ok s))

gives_tuple : (n : ℕ) (a : Locality) → a.0 < n → Gives (tuple n) (λ t. TupleOk n (marked a t))
unfolding tuple
gives_tuple n a m =
    gives_then (gives_bits 2)
    (λ less l. gives_weaken
    (gives_each (Filling n) (less + 1) (tupleField n) (λ i h t ok. gives_tuple_field n i t (omega arith) ok) zero_tuple
    (no_field n))
    (λ t ok. all_fields n (less + 1) t a (omega arith) (omega arith) m ok))

gives_stored :
    (f n k : ℕ) (a : Locality) → a.0 < n → (i : ℕ) (x : Node) → NodeOk f n k x → Gives (stored a n i x) (NodeOk f n k)
unfolding stored
gives_stored f n k a m i x ok =
    gives_then (gives_tuple n a m) (λ t h. gives_pure _ _ (with_tuple_law f n k x ok (marked a t) h))

pub gives_tuples : (f n k : ℕ) (a : Locality) (x : Node) → a.0 < n → NodeOk f n k x → Gives (tuples a n x) (NodeOk f n k)
unfolding tuples
gives_tuples f n k a x m ok =
    gives_then (gives_field 5 0 17 22 (omega arith))
    (λ count _. gives_each (λ i. NodeOk f n k) count (stored a n) (λ i h. gives_stored f n k a m i) x ok)
