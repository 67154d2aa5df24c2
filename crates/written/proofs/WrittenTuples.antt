-- Tuples (`Image.antt` of `image`, `specs/ImageOf.antt`, 4): what is read is what is written.
-- Assumes nothing.
use Prim.Native.Nat.{ℕ, zero, suc, ◌+◌, ◌-◌, ◌<◌, ◌≤◌}
use mathlib.Core.Path.{◌≡◌, refl, sym, ap, subst, ◌∙◌}
use mathlib.Core.Bool.{Bool, true}
use mathlib.Core.List.{List, ◌++◌}
use native.Mathlib.Omega.{arith}
use lib.ListN.{get_or, set, replicate, length-replicate, get_or-replicate}
use lib.Seq.{set-get_or, set-set}
use lib.Dec.{eqb}
use lib.IntN.{ℤ}
use borrow.Author.Tests.{ltb-true, lt-ltb}
use Rattle.net.specs.Choice.{choose}
use Rattle.written.specs.Types.{Locality, Item, Field, Tuple}
use Rattle.net.specs.Records.{zero_field, zero_tuple, field_at, with_field, marked, address_of}
use Rattle.sound.specs.Soundness.{item_sound}
use Rattle.image.specs.Image.{reading_item, address_item, item, tupleField, tuple}
use Rattle.written.specs.ImageOf.{bits_of, address_bits, reading_bits, item_bits, tuple_bits}
use Rattle.text.specs.Joined.{joined}
use Rattle.fresh.specs.Fresh.{reading_fits, item_fits}
use Rattle.net.proofs.Laws.{choose_true}
use Rattle.net.proofs.Every.{Every, Filled}
use Rattle.net.proofs.Past.{past_field}
use Rattle.written.proofs.ReadsWrites.{Reads, reads_then, reads_map, reads_bits}
use Rattle.written.proofs.ReadsParts.{Kinded, reads_kind}
use Rattle.written.proofs.ReadsCells.{Arrayed, Through, Filling, reads_turn, reads_cells, rewritten_filled, filled_rewritten}
use Rattle.written.proofs.WrittenFields.{reads_address, reads_reading}

-- ---- a field
pub record ItemOk (n : ℕ) (x : Item) : Type 0 where
  pub sound : item_sound n x ≡ true
  pub fits : item_fits x ≡ true

sort_of : Item → ℕ
sort_of (Item.Reading x) = 0
sort_of (Item.Address l) = 1

rest : Item → List Bool
rest (Item.Reading x) = reading_bits x
rest (Item.Address l) = address_bits l

item_starts : (x : Item) → item_bits x ≡ bits_of 1 (sort_of x) ++ rest x
unfolding item_bits bits_of sort_of rest
item_starts (Item.Reading x) = refl
item_starts (Item.Address l) = refl

sort_small : (x : Item) → sort_of x < 2
unfolding sort_of
sort_small (Item.Reading x) = omega arith
sort_small (Item.Address l) = omega arith

module _ (n : ℕ) (h : n ≤ 16) where
  reads_reading_item : Reads reading_item rest (Kinded sort_of (ItemOk n) 0)
  unfolding reading_item rest sort_of item_sound item_fits
  reads_reading_item =
      reads_map Item.Reading reads_reading
      (λ x f. record { kind_is = refl; good = record { sound = refl; fits = f } }) (λ x f. refl) parts
    where
      parts : (b : Item) → Kinded sort_of (ItemOk n) 0 b → (x : ℤ) × (reading_fits x ≡ true) × (Item.Reading x ≡ b)
      parts (Item.Reading x) s = (x, s.good.fits, refl)
      parts (Item.Address l) s = absurd (omega (arith, s.kind_is))

  reads_address_item : Reads (address_item n) rest (Kinded sort_of (ItemOk n) 1)
  unfolding address_item rest sort_of item_sound item_fits
  reads_address_item =
      reads_map Item.Address (reads_address n h)
      (λ l f. record { kind_is = refl; good = record { sound = lt-ltb l.0 n f; fits = refl } }) (λ l f. refl) parts
    where
      parts : (b : Item) → Kinded sort_of (ItemOk n) 1 b → (l : Locality) × (l.0 < n) × (Item.Address l ≡ b)
      parts (Item.Reading x) s = absurd (omega (arith, s.kind_is))
      parts (Item.Address l) s = (l, ltb-true l.0 n s.good.sound, refl)

  reads_sort : (sort : ℕ) → sort < 2
      → Reads (choose (eqb sort 0) reading_item (address_item n)) rest (Kinded sort_of (ItemOk n) sort)
  unfolding choose
  reads_sort zero l = reads_reading_item
  reads_sort (suc zero) l = reads_address_item
  reads_sort (suc (suc sort)) l = absurd (omega arith)

  pub reads_item : Reads (item n) item_bits (ItemOk n)
  unfolding item
  reads_item = reads_kind sort_of rest (reads_bits 1) (λ x ok. sort_small x) item_starts reads_sort

-- ---- a tuple, with the mark of address a
pub record TupleOk (a : Locality) (n : ℕ) (t : Tuple) : Type 0 where
  pub mark_is : a ≡ t.mark
  pub least : 1 ≤ t.count
  pub most : t.count ≤ 4
  pub fields_ok : Every (Filled (λ f. ItemOk n f.item) (λ f. zero_field ≡ f) t.count) past_field 4 t.fields

put_field : (t : Tuple) (f : Field) → t.count < 4
    → with_field t f ≡ record { count = t.count + 1; fields = set t.fields t.count f; mark = t.mark }
unfolding with_field
put_field t f h = choose_true _ _ _ (lt-ltb t.count 4 h)

-- a tuple with i fields and no mark yet
record Counted (i : ℕ) (t : Tuple) : Type 0 where
  count_is : t.count ≡ i
  unmarked : address_of 0 ≡ t.mark

-- the fields of a tuple, read one by one
abbrev fields_of : ℕ → Arrayed Tuple Field
fields_of n = record {
  cells = λ t. t.fields;
  put = λ i t f. with_field t f;
  cut = λ i t f. record { count = i; fields = set t.fields i f; mark = t.mark };
  past = past_field;
  Good = λ i f. ItemOk n f.item;
  undo = λ f. zero_field;
  Frame = Counted;
  Extra = λ i t f. Unit {0};
  size = 4;
}

fields_put : (t : Tuple) (i : ℕ) (f : Field) → i < 4 → t.count ≡ i → (with_field t f).fields ≡ set t.fields i f
fields_put t i f l e =
    ap (λ (x : Tuple). x.fields) (put_field t f (omega arith)) ∙ ap (λ (k : ℕ). set t.fields k f) e

fields_cut : (t : Tuple) (i : ℕ) (f : Field) → i < 4 → t.count ≡ suc i
    → with_field (record { count = i; fields = set t.fields i f; mark = t.mark }) (get_or t.fields i past_field) ≡ t
fields_cut t i f l e =
    let c : i + 1 ≡ t.count = omega arith in
    let x : List Field = t.fields in
    put_field _ (get_or x i past_field) l
    ∙ ap (λ (k : ℕ). record { count = k; fields = set (set x i f) i (get_or x i past_field); mark = t.mark }) c
    ∙ ap (λ y. record { count = t.count; fields = y; mark = t.mark }) (set-set x i f (get_or x i past_field) ∙ set-get_or x i past_field)

module _ (n : ℕ) (h : n ≤ 16) where
  filling_fields : (k : ℕ) → k ≤ 4 → Filling (fields_of n) zero_tuple (tupleField n) k (λ f. item_bits f.item)
  unfolding tupleField zero_tuple
  filling_fields k l = record {
    room = l;
    size_is = length-replicate 4 zero_field;
    begins = record { count_is = refl; unmarked = refl };
    starts = λ t e d.
        ap (λ (c : ℕ). record { count = c; fields = replicate 4 zero_field; mark = address_of 0 }) (sym e.count_is)
        ∙ ap (λ y. record { count = t.count; fields = y; mark = address_of 0 }) d
        ∙ ap (λ (m : Locality). record { count = t.count; fields = t.fields; mark = m }) e.unmarked;
    turn = λ i m t e b s.
        reads_turn (fields_of n) zero_tuple i t (λ f. item_bits f.item) (λ x. record { item = x }) (omega arith)
        (λ f. fields_put t i f (omega arith) e.count_is) (reads_item n h)
        (λ x ok. (ok, sym (get_or-replicate 4 i zero_field past_field (omega arith)), tt)) (λ x ok. refl)
        (λ f ok u _. (f.item, ok, refl));
    put_cells = λ i m t f e. fields_put t i f (omega arith) e.count_is;
    put_frame = λ i m t f e s _.
        let d = e.count_is in
        subst (Counted (suc i)) (sym (put_field t f (omega arith)))
        (record { count_is = omega arith; unmarked = e.unmarked });
    cut_cells = λ i m t f. refl;
    cut_frame = λ i m t f e. record { count_is = refl; unmarked = e.unmarked };
    cut_extra = λ i m t f e. tt;
    put_cut = λ i m t f e. fields_cut t i f (omega arith) e.count_is;
  }

  fields_through : (t : Tuple) (k : ℕ) → t.count ≡ k → TupleOk (address_of 0) n t → Through (fields_of n) zero_tuple k t
  unfolding zero_tuple
  fields_through t k e ok = record {
    frame = record { count_is = e; unmarked = ok.mark_is };
    cells_ok = filled_rewritten e ok.fields_ok;
  }

  through_fields : (t : Tuple) (less : ℕ) → less < 4 → Through (fields_of n) zero_tuple (less + 1) t → TupleOk (address_of 0) n t
  unfolding zero_tuple
  through_fields t less l g =
      let e = g.frame.count_is in
      record {
        mark_is = g.frame.unmarked;
        least = omega arith;
        most = omega arith;
        fields_ok = rewritten_filled e g.cells_ok;
      }

  pub reads_tuple : Reads (tuple n) tuple_bits (TupleOk (address_of 0) n)
  unfolding tuple tuple_bits field_at
  reads_tuple =
      reads_then (reads_bits 2)
      (λ less l. reads_cells (fields_of n) zero_tuple (tupleField n) (less + 1) (λ f. item_bits f.item)
      (filling_fields (less + 1) (omega arith)))
      (record {
        keeps = λ less t l g. through_fields t less l g;
        writes = λ less t l g.
            let e = g.frame.count_is in
            let c : t.count - 1 ≡ less = omega arith in
            ap (λ (x : ℕ). bits_of 2 x ++ joined t.count (λ i. item_bits (get_or t.fields i past_field).item)) c
            ∙ ap (λ (x : ℕ). bits_of 2 less ++ joined x (λ i. item_bits (get_or t.fields i past_field).item)) e;
        parts = λ t ok.
            let a = ok.least in
            let b = ok.most in
            (t.count - 1, omega arith, fields_through t (t.count - 1 + 1) (omega arith) ok);
      })

-- ---- the mark is no part of what is written
module _ (a : Locality) (t : Tuple) where
  pub marked_bits : tuple_bits (marked a t) ≡ tuple_bits t
  unfolding tuple_bits field_at marked
  marked_bits = refl

  pub marked_ok : (b : Locality) (n : ℕ) → TupleOk b n t → TupleOk a n (marked a t)
  unfolding marked
  marked_ok b n ok = record { mark_is = refl; least = ok.least; most = ok.most; fields_ok = ok.fields_ok }

  pub marked_again : (b : Locality) → a ≡ t.mark → marked a (marked b t) ≡ t
  unfolding marked
  marked_again b e = ap (λ (m : Locality). record { count = t.count; fields = t.fields; mark = m }) e
