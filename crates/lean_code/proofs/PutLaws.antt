-- The words of the tuple of an out (`put_words` of `lean_words` of what its template wants) are those of the tuple that `tuple_of` of `plans`
-- makes, with the mark of the host. Assumes nothing.
use Prim.Native.Nat.{ℕ, zero, suc, ◌%◌, ◌<◌, ◌≤◌}
use mathlib.Core.Path.{◌≡◌, refl, sym, ap, ◌∙◌}
use mathlib.Core.Bool.{true}
use mathlib.Core.List.{List}
use native.Mathlib.Omega.{arith}
use native.Mathlib.Decide.{dec_le}
use lib.Dec.{ltb}
use lib.IntN.{ℤ}
use lib.ListN.{get_or, replicate}
use Rattle.net.specs.Choice.{choose, fold}
use Rattle.net.specs.Records.{address_of, variable_at, pattern_at, zero_field, zero_tuple, with_field, marked}
use Rattle.net.specs.declared.tuple.Item.{Item}
use Rattle.net.specs.declared.tuple.Tuple.{Tuple}
use Rattle.net.specs.declared.process.Process.{Process}
use Rattle.net.specs.declared.instruction.Instruction.{Instruction}
use Rattle.net.proofs.Every.{chosen_lt}
use Rattle.net.proofs.Past.{past_field}
use Rattle.matching.specs.declared.template.Evaluated.{Evaluated}
use Rattle.matching.specs.Matching.{want_of, evaluated_of, want_at}
use Rattle.sound.specs.Soundness.{is_actual}
use Rattle.plans.specs.Additions.{item_of, tuple_of}
use Rattle.lean_words.specs.Filled.{filled}
use Rattle.lean_words.specs.Items.{address_in, item_in, value_in}
use Rattle.lean_words.specs.Stores.{field_in, tuple_in, put_words}
use Rattle.lean_words.proofs.FilledLaws.{filled_same}
use Rattle.lean_code.specs.Fields.{template_words, defined_words, wants_words}
use Rattle.lean_code.specs.Ranged.{RangedSlot, RangedTuple, RangedTemplate}
use Rattle.lean_code.proofs.FieldLaws.{low_of, field_ranged, field_item}
use Rattle.lean_code.proofs.TemplateLaws.{Fielded, want_in, want_past, low_at, there_at, lowest_at}

-- ---- the tuple of an out: each item in its place, and noughts past the count
module _ (x : ℕ → Item) where
  fields_put :
      (m : ℕ) → m ≤ 4
      → fold 4 (λ i t. choose (ltb i m) (with_field t (record { item = x i })) t) zero_tuple
      ≡ record {
        count = m;
        fields = filled 4 (λ i. record { item = choose (ltb i m) (x i) (Item.Reading (ℤ.pos 0)) }) (replicate 4 zero_field);
        mark = record { 0 = 0 };
      }
  unfolding fold choose with_field zero_tuple zero_field filled
  fields_put zero l = refl
  fields_put (suc zero) l = refl
  fields_put (suc (suc zero)) l = refl
  fields_put (suc (suc (suc zero))) l = refl
  fields_put (suc (suc (suc (suc zero)))) l = refl
  fields_put (suc (suc (suc (suc (suc m))))) l = absurd (omega arith)

module _
    (n a : ℕ) (ws : List ℕ) (p : Process) (few : n ≤ 16) (hosted : a < n) (r : RangedSlot ws)
    (values : (v : ℕ) → v < 8 → variable_at p v ≡ value_in (get_or ws v 0)) (c : Instruction) (ok : Fielded n c)
    (known : defined_words ws (template_words c) ≡ true) (readings : RangedTemplate c)
    (actual : (i : ℕ) → i < c.count → is_actual (pattern_at c i) ≡ true)
  where
    abbrev e : Evaluated
    e = evaluated_of (address_of a) p c

    abbrev wants : List ℕ
    wants = wants_words ws a (template_words c) c.count

    actual_at : (i : ℕ) → i < 4 → is_actual (pattern_at c i) ≡ true
    unfolding is_actual
    actual_at i l = go (dec_le c.count i)
      where
        go : Dec (c.count ≤ i) → is_actual (pattern_at c i) ≡ true
        go (yes h) = ap is_actual (ok.past i l h)
        go (no h) = actual i (omega arith)

    put_at_law : (i : ℕ) → i < 4 → get_or (put_words wants a) i 0 ≡ low_of ws a (pattern_at c i)
    unfolding put_words
    put_at_law zero h = low_at ws a (template_words c) c.count 0 h ∙ lowest_at n a ws p few hosted r values c ok known 0 h
    put_at_law (suc zero) h = low_at ws a (template_words c) c.count 1 h ∙ lowest_at n a ws p few hosted r values c ok known 1 h
    put_at_law (suc (suc zero)) h = low_at ws a (template_words c) c.count 2 h ∙ lowest_at n a ws p few hosted r values c ok known 2 h
    put_at_law (suc (suc (suc zero))) h = low_at ws a (template_words c) c.count 3 h ∙ lowest_at n a ws p few hosted r values c ok known 3 h
    put_at_law (suc (suc (suc (suc i)))) h = absurd (omega arith)

    pub put_ranged : RangedTuple (put_words wants a)
    unfolding put_words
    put_ranged = record {
      size = refl;
      fields = λ i l.
          rw (put_at_law i l)
          (field_ranged n a ws p few hosted r values (pattern_at c i) (ok.each i l) (actual_at i l)
          (there_at n a ws p few hosted r values c ok known i l) (λ z. readings.readings i z l));
    }

    item_put : (i : ℕ) → i < 4 → item_in (get_or (put_words wants a) i 0) ≡ choose (ltb i c.count) (item_of (want_at e i)) (Item.Reading (ℤ.pos 0))
    unfolding item_of
    item_put i l =
        rw (put_at_law i l)
        (field_item n a ws p few hosted r values (pattern_at c i) (ok.each i l) (actual_at i l)
        (there_at n a ws p few hosted r values c ok known i l) (λ z. readings.readings i z l)
        ∙ chosen_lt (λ (y : Item). item_of (want_of (address_of a) p (pattern_at c i)) ≡ y) i c.count _ _
        (λ h. ap item_of (sym (want_in n a p c ok i l))) (λ h. ap item_of (want_past n a p c ok i l h)))

    pub put_in : tuple_in (put_words wants a) ≡ marked (address_of a) (tuple_of e)
    unfolding tuple_in field_in tuple_of marked evaluated_of address_in put_words wants_words
    put_in =
        let made = fields_put (λ i. item_of (want_at e i)) c.count ok.most in
        let low : a % 256 ≡ a = omega arith in
        λ d. record {
          count = (ap (λ (t : Tuple). t.count) (sym made)) d;
          fields =
              (filled_same past_field 4 _ (replicate 4 zero_field) refl _ (replicate 4 zero_field) refl
              (λ i l. ap (λ (y : Item). record { item = y }) (item_put i l))
              ∙ ap (λ (t : Tuple). t.fields) (sym made)) d;
          mark = address_of (low d);
        }
