-- The words of a template (`specs/Fields.antt`) are its evaluation (`evaluated_of` of `matching`), for the process p that has the words ws and
-- is hosted at a: whether it is defined, and which tuples fit it.
-- Assumes nothing.
use Prim.Native.Nat.{ℕ, zero, suc, ◌+◌, ◌*◌, ◌<◌, ◌≤◌}
use mathlib.Core.Path.{◌≡◌, refl, sym, ap, ◌∙◌}
use mathlib.Core.Logic.{◌⊎◌, inl, inr}
use mathlib.Core.Bool.{true}
use mathlib.Core.List.{List, []}
use native.Mathlib.Omega.{arith}
use lib.Dec.{eqb, ltb}
use lib.IntN.{ℤ}
use lib.ListN.{get_or, replicate}
use borrow.Author.Tests.{ltb-false, eqb-true}
use Rattle.net.specs.Readings.{same_reading}
use Rattle.net.specs.Records.{address_of, variable_at, field_at, pattern_at, zero_field, zero_template_field, zero_instruction}
use Rattle.net.specs.Records.{with_action}
use Rattle.net.specs.declared.tuple.Item.{Item}
use Rattle.net.specs.declared.tuple.Field.{Field}
use Rattle.net.specs.declared.process.Process.{Process}
use Rattle.net.specs.declared.instruction.Pattern.{Pattern}
use Rattle.net.specs.declared.instruction.TemplateField.{TemplateField}
use Rattle.net.specs.declared.instruction.Action.{Action}
use Rattle.net.specs.declared.instruction.Instruction.{Instruction}
use Rattle.net.proofs.Laws.{all_e, split}
use Rattle.net.proofs.AllLaws.{all_same}
use Rattle.net.proofs.Every.{chosen_lt, Every, every_replicate, every_set, every_weaken, filled_each}
use Rattle.net.proofs.Past.{past_field}
use Rattle.net.proofs.FoldLaws.{fold_keeps}
use Rattle.matching.specs.declared.template.Want.{Want}
use Rattle.matching.specs.declared.template.Wanted.{Wanted}
use Rattle.matching.specs.declared.template.Evaluated.{Evaluated}
use Rattle.matching.specs.Matching.{defined_field, want_of, zero_wanted, wants_of, evaluated_of, want_at, same_item, fits_field, fits_of}
use Rattle.sound.specs.Soundness.{pattern_sound}
use Rattle.sound.proofs.NodeFacts.{TupleOk}
use Rattle.sound.proofs.CodeFacts.{TemplateOk, InstructionOk, instruction_each}
use Rattle.lean_words.specs.Items.{item_in, value_in}
use Rattle.lean_words.specs.Stores.{field_in, tuple_in, within, fits_words}
use Rattle.lean_words.proofs.FilledLaws.{filled_at}
use Rattle.lean_code.specs.Fields.{field_words, template_words, is_there, defined_words, lowest, highest, wants_words}
use Rattle.lean_code.specs.Ranged.{RangedSlot, RangedTuple}
use Rattle.lean_code.proofs.FieldLaws.{from_of, low_of, high_of, field_there, field_fits}
use Rattle.lean_code.proofs.Firsts.{both_as, implied}

abbrev zero_pattern : Pattern
zero_pattern = Pattern.Reading (ℤ.pos 0)

-- ---- the patterns of a sound instruction: four, sound, and zero past the count
pub record Fielded (n : ℕ) (c : Instruction) : Type 0 where
  pub most : c.count ≤ 4
  pub each : (i : ℕ) → i < 4 → pattern_sound n (pattern_at c i) ≡ true
  pub past : (i : ℕ) → i < 4 → c.count ≤ i → pattern_at c i ≡ zero_pattern

module _ (n : ℕ) (c : Instruction) where
  pattern_zero : (f : TemplateField) → f ≡ zero_template_field → f.pattern ≡ zero_pattern
  unfolding zero_template_field
  pattern_zero f e = ap (λ (g : TemplateField). g.pattern) e

  zero_sound : (f : TemplateField) → f ≡ zero_template_field → pattern_sound n f.pattern ≡ true
  unfolding pattern_sound
  zero_sound f e = ap (pattern_sound n) (pattern_zero f e)

  template_fielded : TemplateOk n c → Fielded n c
  unfolding pattern_at
  template_fielded ok = record {
    most = ok.most;
    each = filled_each ok.patterns_ok (λ f e. e) zero_sound;
    past = λ i l h. pattern_zero _ ((ok.patterns_ok.holds i l).unused h);
  }

bare_pattern : (x : Action) (i : ℕ) → pattern_at (with_action zero_instruction x) i ≡ zero_pattern
unfolding pattern_at with_action zero_instruction zero_template_field
bare_pattern x zero = refl
bare_pattern x (suc zero) = refl
bare_pattern x (suc (suc zero)) = refl
bare_pattern x (suc (suc (suc zero))) = refl
bare_pattern x (suc (suc (suc (suc i)))) = refl

bare_fielded : (n : ℕ) (x : Action) → Fielded n (with_action zero_instruction x)
unfolding pattern_sound with_action zero_instruction
bare_fielded n x = record {
  most = omega arith;
  each = λ i l. ap (pattern_sound n) (bare_pattern x i);
  past = λ i l h. bare_pattern x i;
}

pub fielded : (f n k : ℕ) (c : Instruction) → InstructionOk f n k c → Fielded n c
fielded f n k c = instruction_each f n k c (Fielded n) (template_fielded n c) (bare_fielded n)

-- ---- what is wanted, field by field
abbrev past_wanted : Wanted
past_wanted = record { want = Want.Exactly (Item.Reading (ℤ.pos 0)) }

pub template_at : (c : Instruction) (i : ℕ) → i < 4 → get_or (template_words c) i [] ≡ field_words (pattern_at c i)
unfolding template_words
template_at c i h = filled_at (λ j. field_words (pattern_at c j)) (replicate 4 (replicate 4 0)) [] 4 i h h

module _ (n : ℕ) (a : ℕ) (p : Process) (c : Instruction) (ok : Fielded n c) where
  abbrev wanted : ℕ → Want
  wanted i = want_of (address_of a) p (pattern_at c i)

  pub want_past : (i : ℕ) → i < 4 → c.count ≤ i → wanted i ≡ Want.Exactly (Item.Reading (ℤ.pos 0))
  unfolding want_of
  want_past i l h = ap (want_of (address_of a) p) (ok.past i l h)

  -- the first j fields stand in their places, and the rest want nought
  record Wanting (j i : ℕ) (w : Wanted) : Type 0 where
    done : i < 4 → i < j → w.want ≡ wanted i
    left : j ≤ i → w.want ≡ Want.Exactly (Item.Reading (ℤ.pos 0))

  field_kept : (j i : ℕ) (w : Wanted) → c.count ≤ j → Wanting j i w → Wanting (suc j) i w
  field_kept j i w h f = record { done = λ l g. go l (split i j g); left = λ g. f.left (omega arith) }
    where
      go : i < 4 → (i < j) ⊎ (i ≡ j) → w.want ≡ wanted i
      go l (inl g) = f.done l g
      go l (inr e) = f.left (omega arith) ∙ sym (want_past i l (omega arith))

  all_wanted : Every (Wanting 4) past_wanted 4 (wants_of (address_of a) p c)
  unfolding wants_of zero_wanted
  all_wanted =
      fold_keeps (λ j. Every (Wanting j) past_wanted 4) _ _ 4
      (every_replicate _ past_wanted 4 past_wanted (λ i l. record { done = λ _ g. absurd (omega arith); left = λ _. refl }))
      (λ j ws l f. chosen_lt (Every (Wanting (suc j)) past_wanted 4) j c.count _ _
      (λ h. every_set j _ f
      (λ i w m g. record { done = λ u v. g.done u (omega (arith, m)); left = λ u. g.left (omega arith) })
      (record { done = λ _ _. refl; left = λ u. absurd (omega arith) }))
      (λ h. every_weaken f (λ i w. field_kept j i w h)))

  pub want_in : (i : ℕ) → i < 4 → want_at (evaluated_of (address_of a) p c) i ≡ wanted i
  unfolding want_at evaluated_of
  want_in i l = (all_wanted.holds i l).done l l

-- ---- a tuple's fields
module _ (tw : List ℕ) where
  pub field_in_law : (i : ℕ) → i < 4 → field_at (tuple_in tw) i ≡ item_in (get_or tw i 0)
  unfolding field_at tuple_in field_in
  field_in_law i l = ap (λ (f : Field). f.item) (filled_at _ (replicate 4 zero_field) past_field 4 i l l)

-- ---- the words of what is wanted, by field
module _ (ws : List ℕ) (a : ℕ) (f : List (List ℕ)) (count : ℕ) where
  pub low_at : (i : ℕ) → i < 4 → get_or (wants_words ws a f count) (2 * i) 0 ≡ lowest ws a f i
  unfolding wants_words
  low_at zero h = refl
  low_at (suc zero) h = refl
  low_at (suc (suc zero)) h = refl
  low_at (suc (suc (suc zero))) h = refl
  low_at (suc (suc (suc (suc i)))) h = absurd (omega arith)

  high_at : (i : ℕ) → i < 4 → get_or (wants_words ws a f count) (2 * i + 1) 0 ≡ highest ws a f i
  unfolding wants_words
  high_at zero h = refl
  high_at (suc zero) h = refl
  high_at (suc (suc zero)) h = refl
  high_at (suc (suc (suc zero))) h = refl
  high_at (suc (suc (suc (suc i)))) h = absurd (omega arith)

-- ---- the template of a sound instruction
module _
    (n a : ℕ) (ws : List ℕ) (p : Process) (few : n ≤ 16) (hosted : a < n) (r : RangedSlot ws)
    (values : (v : ℕ) → v < 8 → variable_at p v ≡ value_in (get_or ws v 0)) (c : Instruction) (ok : Fielded n c)
  where
    abbrev e : Evaluated
    e = evaluated_of (address_of a) p c

    from_at : (i : ℕ) → i < 4 → from_of (pattern_at c i) ≡ get_or (get_or (template_words c) i []) 0 0
    from_at i l = ap (λ (fs : List ℕ). get_or fs 0 0) (sym (template_at c i l))

    defined_past : (i : ℕ) → i < 4 → c.count ≤ i → defined_field p (pattern_at c i) ≡ true
    unfolding defined_field
    defined_past i l h = ap (defined_field p) (ok.past i l h)

    pub defined_in_law : defined_words ws (template_words c) ≡ e.defined
    unfolding defined_words evaluated_of
    defined_in_law =
        all_same 4 _ _ (λ i l.
        ap (is_there ws) (sym (from_at i l))
        ∙ field_there n a ws p few hosted r values (pattern_at c i) (ok.each i l)
        ∙ implied (ltb i c.count) _ (λ h. defined_past i l (ltb-false i c.count h)))

    -- ---- a template that is defined
    module _ (known : defined_words ws (template_words c) ≡ true) where
      pub there_at : (i : ℕ) → i < 4 → is_there ws (from_of (pattern_at c i)) ≡ true
      unfolding defined_words
      there_at i l = ap (is_there ws) (from_at i l) ∙ all_e 4 _ known i l

      pub lowest_at : (i : ℕ) → i < 4 → lowest ws a (template_words c) i ≡ low_of ws a (pattern_at c i)
      unfolding lowest
      lowest_at i l = rw (template_at c i l)

      highest_at : (i : ℕ) → i < 4 → highest ws a (template_words c) i ≡ high_of ws a (pattern_at c i)
      unfolding highest
      highest_at i l = rw (template_at c i l)

      -- ---- the tuples that fit
      module _ (tw : List ℕ) (fields : RangedTuple tw) (tuple_ok : TupleOk n (tuple_in tw)) where
        within_in :
            (i : ℕ) → i < 4
            → within tw (wants_words ws a (template_words c) c.count) i ≡ fits_field (field_at (tuple_in tw) i) (want_at e i)
        unfolding within
        within_in i l =
            rw (low_at ws a (template_words c) c.count i l, high_at ws a (template_words c) c.count i l)
            (rw (lowest_at i l, highest_at i l, field_in_law tw i l, want_in n a p c ok i l)
            (field_fits n a ws p few hosted r values (pattern_at c i) (get_or tw i 0) (ok.each i l) (there_at i l) (fields.fields i l)))

        fits_past :
            (i : ℕ) → i < 4 → c.count ≤ i → (tuple_in tw).count ≡ c.count
            → fits_field (field_at (tuple_in tw) i) (want_at e i) ≡ true
        unfolding fits_field same_item same_reading zero_field field_at
        fits_past i l h q =
            let w : want_at e i ≡ Want.Exactly (Item.Reading (ℤ.pos 0)) = want_in n a p c ok i l ∙ want_past n a p c ok i l h in
            let z : field_at (tuple_in tw) i ≡ Item.Reading (ℤ.pos 0) =
            ap (λ (f : Field). f.item) ((tuple_ok.fields_ok.holds i l).unused (omega arith)) in
            rw (w, z)

        pub fits_in_law : fits_words tw (wants_words ws a (template_words c) c.count) ≡ fits_of (tuple_in tw) e
        unfolding fits_words fits_of evaluated_of wants_words tuple_in
        fits_in_law =
            both_as (eqb (get_or tw 4 0) c.count) _ _ (λ same.
            all_same 4 _ _ (λ i l. within_in i l ∙ implied (ltb i c.count) _
            (λ h. fits_past i l (ltb-false i c.count h) (eqb-true (get_or tw 4 0) c.count same))))
