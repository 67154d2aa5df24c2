-- The fields of a tuple and of a template that an image can write (`WrittenTuples.antt` and `WrittenTemplate.antt` of `written`) are
-- well formed (`WellFormed.antt` of `sources`), and make the tuple and the template again. Assumes nothing.
use Prim.Native.Nat.{ℕ, ◌-◌, ◌<◌, ◌≤◌}
use mathlib.Core.Path.{◌≡◌, refl, sym, ap, subst, ◌∙◌}
use mathlib.Core.Bool.{Bool, true, not}
use mathlib.Core.List.{List, [], ◌++◌, map}
use native.Mathlib.Omega.{arith}
use lib.ListN.{length, get_or, replicate, get_or-append}
use Rattle.net.specs.Records.{zero_tuple, zero_template_field, zero_instruction, field_at, pattern_at, marked}
use Rattle.net.proofs.Laws.{implies_e}
use Rattle.net.proofs.Every.{Every, Filled}
use Rattle.net.proofs.Past.{past_template}
use Rattle.sound.specs.Soundness.{binds_anew}
use Rattle.sound.proofs.FormalLaws.{anew_as}
use Rattle.sources.specs.WellFormed.{tuple_of, TupleFormed, template_of, TemplateFormed}
use Rattle.written.proofs.WrittenTuples.{TupleOk}
use Rattle.written.proofs.WrittenTemplate.{TemplateOk}
use Rattle.read_back.specs.Types.{Locality, Item, Tuple, Pattern, TemplateField, Instruction}
use Rattle.read_back.specs.NetSource.{listed}
use Rattle.read_back.proofs.Listed.{listed_same, listed_length, listed_at, map_listed, listed_take, filled_is}
use Rattle.read_back.proofs.EachLaws.{each_listed}

-- an array that is filled up to a count is made again of its first elements, and zero records behind them; an element is a record
-- of one field, here f
module _ {X A : Type 0} {U : A → Type 0} {z d : A} {size count : ℕ} {xs : List A} (wrap : X → A) (f : ℕ → X) where
  remade :
      ((i : ℕ) → wrap (f i) ≡ get_or xs i d) → count ≤ size → Every (Filled U (λ x. z ≡ x) count) d size xs
      → map wrap (listed count f) ++ replicate (size - length (listed count f)) z ≡ xs
  remade same h ok =
      ap (λ (m : ℕ). map wrap (listed count f) ++ replicate (size - m) z) (listed_length count f)
      ∙ ap (λ (ys : List A). ys ++ replicate (size - count) z)
      (map_listed wrap count f ∙ listed_same count _ _ (λ i l. same i) ∙ listed_take xs d count (omega (arith, ok.size_is)))
      ∙ filled_is ok

-- ---- tuples
module _ (a : Locality) (n : ℕ) (t : Tuple) (ok : TupleOk a n t) where
  items : List Item
  items = listed t.count (field_at t)

  made_tuple : tuple_of items ≡ marked zero_tuple.mark t
  unfolding items field_at tuple_of marked
  made_tuple = λ d. record {
    count = listed_length t.count (field_at t) d;
    fields = remade (λ (x : Item). record { item = x }) (field_at t) (λ i. refl) ok.most ok.fields_ok d;
    mark = zero_tuple.mark;
  }

  pub tuple_formed : TupleFormed n (marked zero_tuple.mark t)
  unfolding items field_at
  tuple_formed =
      let long = listed_length t.count (field_at t) in
      record {
        items = items;
        some = omega (arith, ok.least);
        few = omega (arith, ok.most);
        each = each_listed [] t.count (field_at t) (λ i l.
            let good = (ok.fields_ok.holds i (omega (arith, ok.most))).used l in
            record { in_range_law = good.sound; fits = good.fits });
        is = made_tuple;
      }

-- ---- templates
module _ (c : Instruction) where
  -- the first i fields as a template
  begun : ℕ → Instruction
  begun i = template_of (listed i (pattern_at c))

  pattern_begun : (i j : ℕ) → j < i → pattern_at c j ≡ pattern_at (begun i) j
  unfolding begun template_of pattern_at
  pattern_begun i j h =
      let fields : List TemplateField = listed i (λ m. get_or c.template m past_template) in
      let zeros : List TemplateField = replicate (4 - length (listed i (pattern_at c))) zero_template_field in
      ap (λ (f : TemplateField). f.pattern)
      (sym (ap (λ (fs : List TemplateField). get_or (fs ++ zeros) j past_template)
      (map_listed (λ (x : Pattern). record { pattern = x }) i (pattern_at c))
      ∙ get_or-append fields zeros past_template j (omega (arith, listed_length i (λ m. get_or c.template m past_template)))
      ∙ listed_at i (λ m. get_or c.template m past_template) past_template j h))

  module _ (formals : Bool) (n : ℕ) (ok : TemplateOk formals n c) where
    made_template : template_of (listed c.count (pattern_at c)) ≡ c
    unfolding pattern_at template_of zero_instruction
    made_template = λ d. record {
      action = ok.no_action d;
      count = listed_length c.count (pattern_at c) d;
      template = remade (λ (x : Pattern). record { pattern = x }) (pattern_at c) (λ i. refl) ok.most ok.patterns_ok d;
    }

    pub template_formed : TemplateFormed formals n c
    unfolding pattern_at begun
    template_formed =
        let long = listed_length c.count (pattern_at c) in
        record {
          patterns = listed c.count (pattern_at c);
          some = omega (arith, ok.least);
          few = omega (arith, ok.most);
          each = each_listed [] c.count (pattern_at c) (λ i l.
              let good = (ok.patterns_ok.holds i (omega (arith, ok.most))).used l in
              record {
                in_range_law = good.sound;
                fits = good.fits;
                actual = λ e. implies_e (not formals) _ good.allowed (ap not e);
                anew = subst (λ (j : ℕ). binds_anew (begun i) j (pattern_at c i) ≡ true) (sym (listed_length i (pattern_at c)))
                    (anew_as c (begun i) i (pattern_begun i) (pattern_at c i) (ok.anew i l));
              });
          is = made_template;
        }
