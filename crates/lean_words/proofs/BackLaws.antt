-- What words stand for is what they are the words of: readings, items, values, processes and tuples back from their words, where those are
-- in range.
-- Assumes nothing.
use Prim.Native.Nat.{ℕ, ◌+◌, ◌-◌, ◌*◌, ◌/◌, ◌%◌, ◌<◌, ◌≤◌}
use mathlib.Core.Path.{◌≡◌, refl, sym, ap, ◌∙◌}
use mathlib.Core.Bool.{Bool, true, false}
use mathlib.Core.List.{List}
use native.Mathlib.Omega.{arith}
use lib.IntN.{ℤ}
use lib.ListN.{length, get_or, set, replicate, length-set, length-replicate}
use lib.Seq.{get_or-set_same, get_or-set_other}
use borrow.Author.Tests.{lt-ltb, le-ltb, le-leb, lt-leb, eq-eqb, ne_eqb, ltb-true}
use Rattle.net.specs.Choice.{choose, fold}
use Rattle.net.specs.Records.{address_of, place_of, field_at, variable_at, zero_field, zero_tuple, unset_variable, free_process}
use Rattle.net.proofs.Laws.{choose_true, choose_false}
use Rattle.net.proofs.Past.{past_field, past_variable}
use Rattle.sound.specs.Soundness.{item_sound, value_sound}
use Rattle.sound.proofs.NodeFacts.{Running, ProcessOk}
use Rattle.lean_words.specs.Filled.{filled}
use Rattle.lean_words.specs.Items.{reading_word, reading_in, address_in, item_word, item_in, value_word, value_in}
use Rattle.lean_words.specs.Processes.{free_words, busy_words, process_words, variable_in, busy_in, process_in}
use Rattle.lean_words.specs.Stores.{no_tuple, tuple_words, field_in, tuple_in}
use Rattle.lean_words.specs.Types.{Locality, Item, Value, Process, Tuple}
use Rattle.lean_words.proofs.FilledLaws.{length_filled, filled_at, filled_whole}

-- ---- readings, items and values
pub word_above : (x : ℤ) → 257 ≤ reading_word x
unfolding reading_word
word_above (ℤ.pos m) = omega arith
word_above (ℤ.negsuc m) = omega arith

pub reading_back : (x : ℤ) → reading_word x < 4294967553 → reading_in (reading_word x) ≡ x
unfolding reading_in reading_word
reading_back (ℤ.pos m) h =
    let from : 2 * m + 257 - 257 ≡ 2 * m = omega arith in
    let half : 2 * m / 2 ≡ m = omega arith in
    let low : m % 2147483648 ≡ m = omega arith in
    let even : 2 * m % 2 ≡ 0 = omega arith in
    rw from (choose_true _ _ _ (eq-eqb _ 0 even) ∙ ap ℤ.pos (rw half low))
reading_back (ℤ.negsuc m) h =
    let from : 2 * m + 258 - 257 ≡ 2 * m + 1 = omega arith in
    let half : (2 * m + 1) / 2 ≡ m = omega arith in
    let low : m % 2147483648 ≡ m = omega arith in
    let odd : (2 * m + 1) % 2 ≡ 1 = omega arith in
    rw from (choose_false _ _ _ (ne_eqb ((2 * m + 1) % 2) 0 (λ e. omega arith)) ∙ ap ℤ.negsuc (rw half low))

pub address_back : (l : Locality) → l.0 < 256 → address_in l.0 ≡ l
unfolding address_in
address_back l h = let e : l.0 % 256 ≡ l.0 = omega arith in ap address_of e

module _ (n : ℕ) (few : n ≤ 256) where
  pub item_back : (x : Item) → item_sound n x ≡ true → item_word x < 4294967553 → item_in (item_word x) ≡ x
  unfolding item_sound item_word item_in
  item_back (Item.Reading x) s h =
      choose_false _ _ _ (lt-leb (reading_word x) 256 (omega (arith, word_above x))) ∙ ap Item.Reading (reading_back x h)
  item_back (Item.Address l) s h =
      let low : l.0 < 256 = omega (arith, ltb-true l.0 n s) in
      choose_true _ _ _ (le-leb l.0 256 (omega arith)) ∙ ap Item.Address (address_back l low)

  pub value_back : (x : Value) → value_sound n x ≡ true → value_word x < 4294967553 → value_in (value_word x) ≡ x
  unfolding value_sound value_word value_in
  value_back Value.Unset s h =
      choose_false _ _ _ (le-ltb 256 256 (omega arith)) ∙ choose_true _ _ _ (eq-eqb 256 256 refl)
  value_back (Value.Reading x) s h =
      choose_false _ _ _ (le-ltb (reading_word x) 256 (omega (arith, word_above x)))
      ∙ choose_false _ _ _ (ne_eqb (reading_word x) 256 (λ e. omega (arith, word_above x)))
      ∙ ap Value.Reading (reading_back x h)
  value_back (Value.Address l) s h =
      let low : l.0 < 256 = omega (arith, ltb-true l.0 n s) in
      choose_true _ _ _ (lt-ltb _ 256 low) ∙ ap Value.Address (address_back l low)

-- ---- the words of a process
module _ (p : Process) where
  abbrev held : List ℕ
  held = filled 8 (λ v. value_word (variable_at p v)) (replicate 16 0)

  long : length held ≡ 16
  long = length_filled (λ v. value_word (variable_at p v)) (replicate 16 0) 8

  pub length_busy : length (busy_words p) ≡ 16
  unfolding busy_words
  length_busy = length-set (set held 8 p.at.0) 9 _ ∙ length-set held 8 _ ∙ long

  pub variable_word : (v : ℕ) → v < 8 → get_or (busy_words p) v 0 ≡ value_word (variable_at p v)
  unfolding busy_words
  variable_word v h =
      get_or-set_other (set held 8 p.at.0) 9 v _ 0 (λ e. omega arith) ∙ get_or-set_other held 8 v _ 0 (λ e. omega arith)
      ∙ filled_at (λ v. value_word (variable_at p v)) (replicate 16 0) 0 8 v h (omega arith)

  pub place_word : get_or (busy_words p) 8 0 ≡ p.at.0
  unfolding busy_words
  place_word =
      get_or-set_other (set held 8 p.at.0) 9 8 _ 0 (λ e. omega (arith, e)) ∙ get_or-set_same held 8 _ 0 (omega (arith, long))

  pub origin_word : get_or (busy_words p) 9 0 ≡ p.origin.0
  unfolding busy_words
  origin_word = get_or-set_same (set held 8 p.at.0) 9 _ 0 (omega (arith, length-set held 8 p.at.0, long))

pub free_back : process_in free_words ≡ free_process
unfolding process_in free_words
free_back = choose_false _ _ _ (le-ltb 512 512 (omega arith))

module _ (n k : ℕ) (few : n ≤ 256) (short : k ≤ 512) (p : Process) where
  running_back :
      Running n k p → ((v : ℕ) → v < 8 → value_word (variable_at p v) < 4294967553) → process_in (busy_words p) ≡ p
  unfolding process_in busy_in variable_at variable_in
  running_back ok fit =
      let here : p.at.0 < 512 = omega (arith, ok.place) in
      let place : p.at.0 % 512 ≡ p.at.0 = omega arith in
      choose_true _ _ _ (lt-ltb (get_or (busy_words p) 8 0) 512 (rw (place_word p) here))
      ∙ (λ d. record {
        busy = sym ok.is_busy d;
        at = (ap (λ (i : ℕ). place_of (i % 512)) (place_word p) ∙ ap place_of place) d;
        origin = (ap address_in (origin_word p) ∙ address_back p.origin (omega (arith, ok.origin_ok))) d;
        variables =
            filled_whole past_variable 8 (variable_in (busy_words p)) (replicate 8 unset_variable) (length-replicate 8 unset_variable)
            p.variables ok.values.size_is
            (λ v h. ap (λ (x : Value). record { value = x })
            (ap value_in (variable_word p v h) ∙ value_back n few (variable_at p v) (ok.values.holds v h) (fit v h))) d;
      })

  pub process_back :
      ProcessOk n k p → ((v : ℕ) → v < 8 → value_word (variable_at p v) < 4294967553) → process_in (process_words p) ≡ p
  unfolding process_words
  process_back ok fit = go p.busy refl
    where
      go : (b : Bool) → p.busy ≡ b → process_in (process_words p) ≡ p
      go true e = ap process_in (choose_true _ _ _ e) ∙ running_back (ok.running e) fit
      go false e = ap process_in (choose_false _ _ _ e) ∙ free_back ∙ sym (ok.free e)

-- ---- the words of a tuple
module _ (t : Tuple) where
  abbrev items : List ℕ
  items = filled 4 (λ i. item_word (field_at t i)) (replicate 6 0)

  room : length items ≡ 6
  room = length_filled (λ i. item_word (field_at t i)) (replicate 6 0) 4

  pub length_tuple : length (tuple_words t) ≡ 6
  unfolding tuple_words
  length_tuple = length-set (set items 4 t.count) 5 _ ∙ length-set items 4 _ ∙ room

  pub item_at : (i : ℕ) → i < 4 → get_or (tuple_words t) i 0 ≡ item_word (field_at t i)
  unfolding tuple_words
  item_at i h =
      get_or-set_other (set items 4 t.count) 5 i _ 0 (λ e. omega arith) ∙ get_or-set_other items 4 i _ 0 (λ e. omega arith)
      ∙ filled_at (λ j. item_word (field_at t j)) (replicate 6 0) 0 4 i h (omega arith)

  count_word : get_or (tuple_words t) 4 0 ≡ t.count
  unfolding tuple_words
  count_word = get_or-set_other (set items 4 t.count) 5 4 _ 0 (λ e. omega (arith, e)) ∙ get_or-set_same items 4 _ 0 (omega (arith, room))

  mark_word : get_or (tuple_words t) 5 0 ≡ t.mark.0
  unfolding tuple_words
  mark_word = get_or-set_same (set items 4 t.count) 5 _ 0 (omega (arith, length-set items 4 t.count, room))

  pub tuple_back :
      (n : ℕ) → n ≤ 256 → length t.fields ≡ 4 → t.mark.0 < 256
      → ((i : ℕ) → i < 4 → item_sound n (field_at t i) ≡ true)
      → ((i : ℕ) → i < 4 → item_word (field_at t i) < 4294967553)
      → tuple_in (tuple_words t) ≡ t
  unfolding tuple_in field_in field_at
  tuple_back n few size low sound fit = λ d. record {
    count = count_word d;
    fields =
        filled_whole past_field 4 (field_in (tuple_words t)) (replicate 4 zero_field) (length-replicate 4 zero_field) t.fields size
        (λ i h. ap (λ (x : Item). record { item = x }) (ap item_in (item_at i h) ∙ item_back n few (field_at t i) (sound i h) (fit i h))) d;
    mark = (ap address_in mark_word ∙ address_back t.mark low) d;
  }

-- a record that holds no tuple
pub no_tuple_in : tuple_in no_tuple ≡ zero_tuple
unfolding tuple_in no_tuple field_in zero_tuple zero_field address_in item_in reading_in choose filled fold
no_tuple_in = refl
