-- The net that the words stand for, record by record, and what a change of some words is in it. Assumes nothing.
use Prim.Native.Nat.{ℕ, ◌<◌, ◌%◌}
use mathlib.Core.Path.{◌≡◌, refl, sym, ap, ap₂, ◌∙◌}
use mathlib.Core.Logic.{◌≢◌}
use mathlib.Core.Bool.{Bool}
use mathlib.Core.List.{List, []}
use native.Mathlib.Omega.{arith}
use lib.ListN.{length, get_or, set, length-replicate}
use lib.Seq.{get_or-set_same, get_or-set_other}
use Rattle.net.specs.Records.{address_of, node_at, process_at, tuple_at, row_at, with_node, with_process, with_rows, with_counts}
use Rattle.net.specs.Records.{free_process, zero_tuple, zero_row}
use Rattle.net.specs.Shape.{Shaped}
use Rattle.net.proofs.Past.{past_node, past_process, past_tuple, past_row}
use Rattle.step.specs.Pick.{with_host}
use Rattle.lean_words.specs.Processes.{process_in}
use Rattle.lean_words.specs.Stores.{tuple_in}
use Rattle.lean_words.specs.Rights.{row_in}
use Rattle.lean_words.proofs.FilledLaws.{length_filled, filled_at, filled_set}
use Rattle.lean.specs.Types.{Process, Tuple, Node, Net}
use Rattle.lean.specs.Words.{Words, Sized, processes_in, tuples_in, rows_in, node_with, node_in, net_in, slot_at, with_slot}

-- ---- the words with one part replaced
abbrev pub with_slots : Words → List (List (List ℕ)) → Words
with_slots w slots = record { count = w.count; slots = slots; stored = w.stored; tuples = w.tuples; rows = w.rows }

abbrev pub with_stores : Words → List ℕ → List (List (List ℕ)) → Words
with_stores w stored tuples = record { count = w.count; slots = w.slots; stored = stored; tuples = tuples; rows = w.rows }

abbrev pub with_policies : Words → List (List (List Bool)) → Words
with_policies w rows = record { count = w.count; slots = w.slots; stored = w.stored; tuples = w.tuples; rows = rows }

abbrev pub with_count : Words → ℕ → Words
with_count w n = record { count = n; slots = w.slots; stored = w.stored; tuples = w.tuples; rows = w.rows }

-- a node with another store
abbrev pub with_store : Node → ℕ → List Tuple → Node
with_store x n ts = record { rows = x.rows; processes = x.processes; stored = n; tuples = ts }

-- ---- the parts of a node
pub process_in_law : (slots : List (List ℕ)) (k : ℕ) → k < 4 → get_or (processes_in slots) k past_process ≡ process_in (get_or slots k [])
unfolding processes_in
process_in_law slots k h = filled_at _ _ past_process 4 k h (omega (arith, length-replicate 4 free_process))

pub tuple_in_law : (store : List (List ℕ)) (j : ℕ) → j < 16 → get_or (tuples_in store) j past_tuple ≡ tuple_in (get_or store j [])
unfolding tuples_in
tuple_in_law store j h = filled_at _ _ past_tuple 16 j h (omega (arith, length-replicate 16 zero_tuple))

pub row_in_law : (policy : List (List Bool)) (o : ℕ) → o < 16 → get_or (rows_in policy) o past_row ≡ row_in (get_or policy o [])
unfolding rows_in
row_in_law policy o h = filled_at _ _ past_row 16 o h (omega (arith, length-replicate 16 zero_row))

-- one anew
pub process_anew :
    (slots : List (List ℕ)) (k : ℕ) (p : List ℕ) → length slots ≡ 4
    → processes_in (set slots k p) ≡ set (processes_in slots) k (process_in p)
unfolding processes_in
process_anew slots k p size =
    filled_set past_process 4 _ _ (length-replicate 4 free_process) _ k _
    (λ i h n. ap process_in (get_or-set_other slots k i p [] n))
    (λ h. ap process_in (get_or-set_same slots k p [] (omega arith)))

pub tuple_anew :
    (store : List (List ℕ)) (j : ℕ) (t : List ℕ) → length store ≡ 16
    → tuples_in (set store j t) ≡ set (tuples_in store) j (tuple_in t)
unfolding tuples_in
tuple_anew store j t size =
    filled_set past_tuple 16 _ _ (length-replicate 16 zero_tuple) _ j _
    (λ i h n. ap tuple_in (get_or-set_other store j i t [] n))
    (λ h. ap tuple_in (get_or-set_same store j t [] (omega arith)))

pub row_anew :
    (policy : List (List Bool)) (o : ℕ) (flags : List Bool) → length policy ≡ 16
    → rows_in (set policy o flags) ≡ set (rows_in policy) o (row_in flags)
unfolding rows_in
row_anew policy o flags size =
    filled_set past_row 16 _ _ (length-replicate 16 zero_row) _ o _
    (λ i h n. ap row_in (get_or-set_other policy o i flags [] n))
    (λ h. ap row_in (get_or-set_same policy o flags [] (omega arith)))

-- ---- the net
pub start_nodes : (start : Net) (w : Words) → Shaped (net_in start w) → length start.nodes ≡ 16
unfolding net_in
start_nodes start w h = sym (length_filled (node_in w) start.nodes 16) ∙ h.nodes_are

module _ (start : Net) (size : length start.nodes ≡ 16) where
  pub node_in_law : (w : Words) (a : ℕ) → a < 16 → node_at (net_in start w) (address_of a) ≡ node_in w a
  unfolding node_at net_in
  node_in_law w a h = filled_at (node_in w) start.nodes past_node 16 a h (omega arith)

  -- one node anew
  pub node_anew :
      (w w' : Words) (a : ℕ) (x : Node) → w'.count ≡ w.count → ((i : ℕ) → i ≢ a → node_in w' i ≡ node_in w i)
      → node_in w' a ≡ x → net_in start w' ≡ with_node (net_in start w) (address_of a) x
  unfolding net_in with_node
  node_anew w w' a x count others here =
      ap₂
      (λ (n : ℕ) (xs : List Node).
      record { format = start.format; addresses = n; length = start.length; nodes = xs; code = start.code })
      count
      (filled_set past_node 16 (node_in w') start.nodes size (node_in w) a x (λ i h n. others i n) (λ h. here))

  module _ (w : Words) (sized : Sized w) (a : ℕ) (h : a < 16) where
    -- slots
    pub slots_anew :
        (slots : List (List ℕ))
        → net_in start (with_slots w (set w.slots a slots))
        ≡ with_node (net_in start w) (address_of a)
        (record { rows = (node_in w a).rows; processes = processes_in slots; stored = (node_in w a).stored; tuples = (node_in w a).tuples })
    unfolding node_in node_with
    slots_anew slots =
        node_anew w _ a _ refl
        (λ i n.
        ap (λ (s : List (List ℕ)). node_with s (get_or w.stored i 0) (get_or w.tuples i []) (get_or w.rows i []))
        (get_or-set_other w.slots a i slots [] n))
        (ap (λ (s : List (List ℕ)). node_with s (get_or w.stored a 0) (get_or w.tuples a []) (get_or w.rows a []))
        (get_or-set_same w.slots a slots [] (omega (arith, sized.slots_are.long))))

    pub slot_anew :
        (k : ℕ) (p : List ℕ)
        → net_in start (with_slots w (set w.slots a (set (get_or w.slots a []) k p)))
        ≡ with_host (net_in start w) (address_of a) k (process_in p)
    unfolding with_host with_process node_in node_with
    slot_anew k p =
        slots_anew _
        ∙ ap
        (λ (ps : List Process).
        with_node (net_in start w) (address_of a)
        (record { rows = (node_in w a).rows; processes = ps; stored = (node_in w a).stored; tuples = (node_in w a).tuples }))
        (process_anew (get_or w.slots a []) k p (sized.slots_are.wide a h))
        ∙ ap (λ (x : Node). with_node (net_in start w) (address_of a) (with_process x k (process_in p))) (sym (node_in_law w a h))

    -- stores
    pub store_anew :
        (n : ℕ) (store : List (List ℕ))
        → net_in start (with_stores w (set w.stored a n) (set w.tuples a store))
        ≡ with_node (net_in start w) (address_of a) (with_store (node_at (net_in start w) (address_of a)) n (tuples_in store))
    unfolding node_in node_with
    store_anew n store =
        node_anew w _ a _ refl
        (λ i e.
        ap₂ (λ (m : ℕ) (ts : List (List ℕ)). node_with (get_or w.slots i []) m ts (get_or w.rows i []))
        (get_or-set_other w.stored a i n 0 e)
        (get_or-set_other w.tuples a i store [] e))
        (ap₂ (λ (m : ℕ) (ts : List (List ℕ)). node_with (get_or w.slots a []) m ts (get_or w.rows a []))
        (get_or-set_same w.stored a n 0 (omega (arith, sized.stored_are)))
        (get_or-set_same w.tuples a store [] (omega (arith, sized.tuples_are.long)))
        ∙ ap (λ (x : Node). with_store x n (tuples_in store)) (sym (node_in_law w a h)))

    -- rows
    pub rows_anew :
        (policy : List (List Bool))
        → net_in start (with_policies w (set w.rows a policy))
        ≡ with_node (net_in start w) (address_of a) (with_rows (node_at (net_in start w) (address_of a)) (rows_in policy))
    unfolding node_in node_with with_rows
    rows_anew policy =
        node_anew w _ a _ refl
        (λ i e.
        ap (λ (p : List (List Bool)). node_with (get_or w.slots i []) (get_or w.stored i 0) (get_or w.tuples i []) p)
        (get_or-set_other w.rows a i policy [] e))
        (ap (λ (p : List (List Bool)). node_with (get_or w.slots a []) (get_or w.stored a 0) (get_or w.tuples a []) p)
        (get_or-set_same w.rows a policy [] (omega (arith, sized.rows_are.long)))
        ∙ ap (λ (x : Node). with_rows x (rows_in policy)) (sym (node_in_law w a h)))

  -- the count
  pub count_anew : (w : Words) (n : ℕ) → net_in start (with_count w n) ≡ with_counts (net_in start w) n start.length
  unfolding net_in with_counts node_in
  count_anew w n = refl

  -- ---- its records
  module _ (w : Words) (a : ℕ) (h : a < 16) where
    pub stored_at : (node_at (net_in start w) (address_of a)).stored ≡ get_or w.stored a 0
    unfolding node_in node_with
    stored_at = ap (λ (x : Node). x.stored) (node_in_law w a h)

    pub process_at_law : (k : ℕ) → k < 4 → process_at (node_at (net_in start w) (address_of a)) k ≡ process_in (get_or (get_or w.slots a []) k [])
    unfolding node_in node_with process_at
    process_at_law k l = ap (λ (x : Node). process_at x k) (node_in_law w a h) ∙ process_in_law _ k l

    pub tuple_at_law : (j : ℕ) → j < 16 → tuple_at (node_at (net_in start w) (address_of a)) j ≡ tuple_in (get_or (get_or w.tuples a []) j [])
    unfolding node_in node_with tuple_at
    tuple_at_law j l = ap (λ (x : Node). tuple_at x j) (node_in_law w a h) ∙ tuple_in_law _ j l

    pub row_at_law : (o : ℕ) → o < 16 → row_at (node_at (net_in start w) (address_of a)) (address_of o) ≡ row_in (get_or (get_or w.rows a []) o [])
    unfolding node_in node_with row_at
    row_at_law o l = ap (λ (x : Node). row_at x (address_of o)) (node_in_law w a h) ∙ row_in_law _ o l

-- ---- words at an address and a slot that are clipped, as the code has it
pub slot_in : (slots : List (List (List ℕ))) (a k : ℕ) → a < 16 → k < 4 → slot_at slots a k ≡ get_or (get_or slots a []) k []
unfolding slot_at
slot_in slots a k h l =
    ap₂ (λ (i j : ℕ). get_or (get_or slots i []) j []) (let e : a % 16 ≡ a = omega arith in e) (let e : k % 4 ≡ k = omega arith in e)

pub with_slot_law :
    (slots : List (List (List ℕ))) (a k : ℕ) (p : List ℕ) → a < 16 → k < 4
    → with_slot slots a k p ≡ set slots a (set (get_or slots a []) k p)
unfolding with_slot
with_slot_law slots a k p h l =
    ap₂ (λ (i j : ℕ). set slots i (set (get_or slots i []) j p)) (let e : a % 16 ≡ a = omega arith in e)
    (let e : k % 4 ≡ k = omega arith in e)
