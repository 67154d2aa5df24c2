-- Tuples and templates made field by field have their lengths and readings of 32 bits (`Fresh.antt` of `fresh`), where each
-- field that is added fits. Assumes nothing.
use mathlib.Core.Path.{◌≡◌, refl}
use mathlib.Core.Bool.{true}
use Rattle.net.specs.Records.{zero_field, zero_tuple, zero_template_field, zero_instruction, field_at, pattern_at, marked, with_field, with_pattern}
use Rattle.net.specs.Records.{with_action}
use Rattle.net.proofs.Laws.{both_i}
use Rattle.net.proofs.Every.{Every, chosen_lt, every_replicate, every_set}
use Rattle.net.proofs.Past.{past_field, past_template}
use Rattle.fresh.specs.Fresh.{reading_fits, item_fits, pattern_fits, tuple_fits, action_fits, instruction_fits}
use Rattle.fresh.proofs.FitLaws.{array_fits}
use Rattle.texts.specs.Types.{Locality, Field, Tuple, TemplateField, Action, Instruction}

-- ---- tuples
abbrev pub ItemsFit : Tuple → Type 0
ItemsFit t = Every (λ i f. item_fits f.item ≡ true) past_field 4 t.fields

pub no_item : ItemsFit zero_tuple
unfolding zero_tuple zero_field item_fits reading_fits
no_item = every_replicate _ past_field 4 zero_field (λ i h. refl)

pub next_item : (t : Tuple) (f : Field) → ItemsFit t → item_fits f.item ≡ true → ItemsFit (with_field t f)
unfolding with_field
next_item t f ok e =
    chosen_lt ItemsFit t.count 4 _ _ (λ _. every_set t.count f ok (λ i g d h. h) e) (λ _. ok)

pub tuple_fits_law : (t : Tuple) → ItemsFit t → tuple_fits t ≡ true
unfolding tuple_fits field_at
tuple_fits_law t ok = array_fits (λ f. item_fits f.item) ok

pub marked_fits : (a : Locality) (t : Tuple) → ItemsFit t → tuple_fits (marked a t) ≡ true
unfolding marked
marked_fits a t ok = tuple_fits_law (marked a t) ok

-- ---- templates
abbrev pub PatternsFit : Instruction → Type 0
PatternsFit c = Every (λ i f. pattern_fits f.pattern ≡ true) past_template 4 c.template

pub no_pattern : PatternsFit zero_instruction
unfolding zero_instruction zero_template_field pattern_fits reading_fits
no_pattern = every_replicate _ past_template 4 zero_template_field (λ i h. refl)

pub next_pattern :
    (c : Instruction) (f : TemplateField) → PatternsFit c → pattern_fits f.pattern ≡ true → PatternsFit (with_pattern c f)
unfolding with_pattern
next_pattern c f ok e =
    chosen_lt PatternsFit c.count 4 _ _ (λ _. every_set c.count f ok (λ i g d h. h) e) (λ _. ok)

pub template_fits :
    (c : Instruction) → PatternsFit c → (a : Action) → action_fits a ≡ true → instruction_fits (with_action c a) ≡ true
unfolding instruction_fits pattern_at with_action
template_fits c ok a e = both_i _ _ e (array_fits (λ f. pattern_fits f.pattern) ok)
