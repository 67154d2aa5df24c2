-- The words of a sound node (`specs/Loading.antt`) stand for it, are as many as the arrays have, and are in range.
-- Assumes nothing.
use Prim.Native.Nat.{ℕ, ◌<◌, ◌≤◌}
use mathlib.Core.Path.{◌≡◌, refl, sym, ap, subst, ◌∙◌}
use mathlib.Core.Logic.{◌≢◌}
use mathlib.Core.Bool.{Bool, true, false}
use mathlib.Core.List.{[]}
use native.Mathlib.Omega.{arith}
use lib.ListN.{length, get_or, set, replicate, get_or-replicate}
use lib.Seq.{get_or-set_other}
use borrow.Author.Tests.{ltb-true}
use Rattle.net.specs.Records.{address_of, field_at, variable_at, process_at, tuple_at, row_at}
use Rattle.net.specs.Records.{zero_field, zero_tuple, free_process, zero_row}
use Rattle.net.specs.declared.tuple.Item.{Item}
use Rattle.net.specs.declared.tuple.Field.{Field}
use Rattle.net.proofs.Laws.{choose_true, choose_false}
use Rattle.net.proofs.Every.{filled_each}
use Rattle.net.proofs.Past.{past_field, past_process, past_tuple, past_row}
use Rattle.sound.specs.Soundness.{item_sound}
use Rattle.sound.proofs.NodeFacts.{of_zero, TupleOk, ProcessOk, NodeOk}
use Rattle.lean_words.specs.Items.{item_word, value_word}
use Rattle.lean_words.specs.Processes.{free_words, busy_words, process_words, process_in}
use Rattle.lean_words.specs.Stores.{no_tuple, tuple_words, tuple_in}
use Rattle.lean_words.specs.Rights.{row_flags, row_in}
use Rattle.lean_words.proofs.BackLaws.{word_above, process_back, tuple_back, length_busy, variable_word, origin_word, length_tuple, item_at}
use Rattle.lean_words.proofs.FilledLaws.{length_filled, filled_at, filled_whole}
use Rattle.lean_words.proofs.RowLaws.{length_row, row_back}
use Rattle.lean_code.specs.Ranged.{RangedSlot, RangedTuple}
use Rattle.lean.specs.Types.{Tuple, Process, Node}
use Rattle.lean.specs.Words.{processes_in, tuples_in, rows_in, node_with}
use Rattle.lean.specs.Loading.{slots_of, store_of, policy_of}

-- ---- the words of a process
unset_word : (v : ℕ) → v < 8 → get_or free_words v 0 ≡ 256
unfolding free_words
unset_word v l =
    get_or-set_other (set (replicate 16 256) 8 512) 9 v 0 0 (λ e. omega arith)
    ∙ get_or-set_other (replicate 16 256) 8 v 512 0 (λ e. omega arith)
    ∙ get_or-replicate 16 v 256 0 (omega arith)

pub free_ranged : RangedSlot free_words
unfolding free_words
free_ranged = record { size = refl; variables = λ v l. rw (unset_word v l) (omega arith); origin = omega arith }

module _ (n k : ℕ) (few : n ≤ 16) (p : Process) (fit : (v : ℕ) → v < 8 → value_word (variable_at p v) < 4294967553) where
  busy_ranged : p.origin.0 < n → RangedSlot (busy_words p)
  busy_ranged h = record {
    size = length_busy p;
    variables = λ v l. rw (variable_word p v l) (fit v l);
    origin = rw (origin_word p) (omega arith);
  }

  slot_ranged : ProcessOk n k p → RangedSlot (process_words p)
  unfolding process_words
  slot_ranged ok = go p.busy refl
    where
      go : (b : Bool) → p.busy ≡ b → RangedSlot (process_words p)
      go true e = rw (choose_true p.busy (busy_words p) free_words e) (busy_ranged (ok.running e).origin_ok)
      go false e = rw (choose_false p.busy (busy_words p) free_words e) free_ranged

-- ---- a tuple, stored or zero
record Plain (n : ℕ) (t : Tuple) : Type 0 where
  size : length t.fields ≡ 4
  mark : t.mark.0 < 256
  items : (i : ℕ) → i < 4 → item_sound n (field_at t i) ≡ true

module _ (n : ℕ) (few : n ≤ 16) where
  zero_plain : Plain n zero_tuple
  unfolding zero_tuple zero_field item_sound field_at
  zero_plain = record {
    size = refl;
    mark = omega arith;
    items = λ i h. ap (λ (f : Field). item_sound n f.item) (get_or-replicate 4 i zero_field past_field h);
  }

  tuple_plain : (t : Tuple) → TupleOk n t → Plain n t
  unfolding zero_field item_sound field_at
  tuple_plain t ok = record {
    size = ok.fields_ok.size_is;
    mark = omega (arith, ok.mark_ok);
    items = filled_each ok.fields_ok (λ f e. e) (λ f e. ap (λ (g : Field). item_sound n g.item) e);
  }

  item_there : (x : Item) → item_sound n x ≡ true → item_word x ≢ 256
  unfolding item_sound item_word
  item_there (Item.Reading z) s e = omega (arith, word_above z)
  item_there (Item.Address l) s e = omega (arith, ltb-true l.0 n s)

  module _ (t : Tuple) (ok : Plain n t) (fit : (i : ℕ) → i < 4 → item_word (field_at t i) < 4294967553) where
    plain_back : tuple_in (tuple_words t) ≡ t
    plain_back = tuple_back t n (omega arith) ok.size ok.mark ok.items fit

    plain_ranged : RangedTuple (tuple_words t)
    plain_ranged = record {
      size = length_tuple t;
      fields = λ i h. rw (item_at t i h) (record { below = fit i h; there = item_there (field_at t i) (ok.items i h) });
    }

-- ---- the words of a node's records
module _ (x : Node) where
  slot_at : (i : ℕ) → i < 4 → get_or (slots_of x) i [] ≡ process_words (process_at x i)
  unfolding slots_of
  slot_at i h = filled_at (λ j. process_words (process_at x j)) (replicate 4 free_words) [] 4 i h h

  store_at : (j : ℕ) → j < 16 → get_or (store_of x) j [] ≡ tuple_words (tuple_at x j)
  unfolding store_of
  store_at j h = filled_at (λ i. tuple_words (tuple_at x i)) (replicate 16 no_tuple) [] 16 j h h

  policy_at : (o : ℕ) → o < 16 → get_or (policy_of x) o [] ≡ row_flags (row_at x (address_of o))
  unfolding policy_of
  policy_at o h = filled_at (λ i. row_flags (row_at x (address_of i))) (replicate 16 (replicate 65 false)) [] 16 o h h

  pub slots_long : length (slots_of x) ≡ 4
  unfolding slots_of
  slots_long = length_filled (λ j. process_words (process_at x j)) (replicate 4 free_words) 4

  pub store_long : length (store_of x) ≡ 16
  unfolding store_of
  store_long = length_filled (λ j. tuple_words (tuple_at x j)) (replicate 16 no_tuple) 16

  pub policy_long : length (policy_of x) ≡ 16
  unfolding policy_of
  policy_long = length_filled (λ o. row_flags (row_at x (address_of o))) (replicate 16 (replicate 65 false)) 16

  pub flags_long : (o : ℕ) → o < 16 → length (get_or (policy_of x) o []) ≡ 65
  flags_long o h = ap length (policy_at o h) ∙ length_row (row_at x (address_of o))

-- ---- a node is what its words stand for, and they are in range
module _
    (f n k : ℕ) (few : n ≤ 16) (short : k ≤ 512) (x : Node) (ok : NodeOk f n k x)
    (values : (i v : ℕ) → i < 4 → v < 8 → value_word (variable_at (process_at x i) v) < 4294967553)
    (items : (j i : ℕ) → j < 16 → i < 4 → item_word (field_at (tuple_at x j) i) < 4294967553)
  where
    plain : (j : ℕ) → j < 16 → Plain n (tuple_at x j)
    unfolding tuple_at
    plain = filled_each ok.tuples_ok (tuple_plain n few) (of_zero (Plain n) (zero_plain n few))

    slots_back : processes_in (slots_of x) ≡ x.processes
    unfolding processes_in process_at
    slots_back =
        filled_whole past_process 4 (λ i. process_in (get_or (slots_of x) i [])) (replicate 4 free_process) refl x.processes
        ok.processes_ok.size_is
        (λ i h. ap process_in (slot_at x i h)
        ∙ process_back n k (omega arith) short (process_at x i) (ok.processes_ok.holds i h) (λ v. values i v h))

    store_back : tuples_in (store_of x) ≡ x.tuples
    unfolding tuples_in tuple_at
    store_back =
        filled_whole past_tuple 16 (λ j. tuple_in (get_or (store_of x) j [])) (replicate 16 zero_tuple) refl x.tuples
        ok.tuples_ok.size_is
        (λ j h. ap tuple_in (store_at x j h) ∙ plain_back n few (tuple_at x j) (plain j h) (λ i. items j i h))

    policy_back : rows_in (policy_of x) ≡ x.rows
    unfolding rows_in row_at
    policy_back =
        filled_whole past_row 16 (λ o. row_in (get_or (policy_of x) o [])) (replicate 16 zero_row) refl x.rows
        ok.rows_ok.each_ok.size_is
        (λ o h. ap row_in (policy_at x o h) ∙ row_back (row_at x (address_of o)) (ok.rows_ok.each_ok.holds o h).size_is)

    pub node_back : node_with (slots_of x) x.stored (store_of x) (policy_of x) ≡ x
    unfolding node_with
    node_back = λ d. record { rows = policy_back d; processes = slots_back d; stored = x.stored; tuples = store_back d }

    pub slots_ranged : (i : ℕ) → i < 4 → RangedSlot (get_or (slots_of x) i [])
    unfolding process_at
    slots_ranged i h =
        subst RangedSlot (sym (slot_at x i h))
        (slot_ranged n k few (process_at x i) (λ v. values i v h) (ok.processes_ok.holds i h))

    pub store_ranged : (j : ℕ) → j < 16 → RangedTuple (get_or (store_of x) j [])
    store_ranged j h =
        subst RangedTuple (sym (store_at x j h)) (plain_ranged n few (tuple_at x j) (plain j h) (λ i. items j i h))
