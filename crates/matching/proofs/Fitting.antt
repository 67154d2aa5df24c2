-- What an evaluated template wants and when a tuple fits it: the definitions of `specs/Matching.antt` compute what
-- `specs/Fitting.antt` says. Assumes nothing.
use Prim.Native.Nat.{ℕ, suc, ◌<◌, ◌≤◌}
use mathlib.Core.Path.{◌≡◌, refl, sym, ap, subst, ◌∙◌}
use mathlib.Core.Logic.{◌↔◌}
use mathlib.Core.Bool.{true}
use mathlib.Core.List.{List}
use native.Mathlib.Omega.{arith}
use lib.Dec.{eqb}
use lib.IntN.{ℤ}
use borrow.Author.Tests.{ltb-true, lt-ltb, eq-eqb, eqb-true}
use Rattle.std.proofs.lemmas.Bool.Decides.{same_from_decides, Decides-int_eq}
use Rattle.net.specs.contracts.tuple.ItemPartialEq.TheImpl as item
use Rattle.net.specs.Readings.{same_reading}
use Rattle.matching.specs.Types.{Locality, Value, Item, Tuple, Process, Pattern, Instruction}
use Rattle.net.specs.Records.{variable_at, pattern_at}
use Rattle.matching.specs.Matching.{Want, Wanted, Evaluated, is_set, held_item, defined_field, want_of, zero_wanted}
use Rattle.matching.specs.Matching.{wants_of, evaluated_of, want_at, same_item, is_reading, is_address}
use Rattle.matching.specs.Matching.{fits_field, fits_of}
use Rattle.matching.specs.Fitting.{Wants, written_reading, written_address, self_address, held_reading, held_address}
use Rattle.matching.specs.Fitting.{formal_reading_law, formal_address_law, AllSet, FieldFits, equal, any_reading, any_address, Fits}
use Rattle.net.proofs.Laws.{both_i, both_l, both_r, implies_i, implies_e, all_i, all_e}
use Rattle.net.proofs.Every.{chosen_lt, Every, every_replicate, every_set, every_weaken}
use Rattle.net.proofs.ReadingLaws.{never, same_reading_law, reading_equal}
use Rattle.net.proofs.FoldLaws.{fold_keeps}

-- ---- items: the tests are equality
same_item_law : (x : Item) → same_item x x ≡ true
unfolding same_item
same_item_law (Item.Reading x) = same_reading_law x
same_item_law (Item.Address l) = eq-eqb l.0 l.0 refl

item_equal : (x y : Item) → same_item x y ≡ true → x ≡ y
unfolding same_item
item_equal (Item.Reading x) (Item.Reading y) h = ap Item.Reading (reading_equal x y h)
item_equal (Item.Reading x) (Item.Address m) h = never h
item_equal (Item.Address l) (Item.Reading y) h = never h
item_equal (Item.Address l) (Item.Address m) h =
    ap (λ (n : ℕ). Item.Address (record { 0 = n })) (eqb-true l.0 m.0 h)

-- the derived test is this one
pub same_item_is : (x y : Item) → (item.eq-value).it x y ≡ same_item x y
unfolding same_item
same_item_is (Item.Reading x) (Item.Reading y) =
    same_from_decides _ _ (Decides-int_eq x y)
    (reading_equal x y, λ e. subst (λ (z : ℤ). same_reading x z ≡ true) e (same_reading_law x))
same_item_is (Item.Reading x) (Item.Address m) = refl
same_item_is (Item.Address l) (Item.Reading y) = refl
same_item_is (Item.Address l) (Item.Address m) = refl

-- ---- fitting
field_fits : (x : Item) (w : Want) → fits_field x w ≡ true → FieldFits x w
unfolding fits_field is_reading is_address
field_fits x (Want.Exactly y) h = subst (λ (z : Item). FieldFits x (Want.Exactly z)) (item_equal x y h) equal
field_fits (Item.Reading x) (Want.AnyReading v) h = any_reading
field_fits (Item.Address l) (Want.AnyReading v) h = never h
field_fits (Item.Reading x) (Want.AnyAddress v) h = never h
field_fits (Item.Address l) (Want.AnyAddress v) h = any_address

fits_field_law : (x : Item) (w : Want) → FieldFits x w → fits_field x w ≡ true
unfolding fits_field is_reading is_address
fits_field_law x _ equal = same_item_law x
fits_field_law _ _ any_reading = refl
fits_field_law _ _ any_address = refl

pub fits_is : (t : Tuple) (e : Evaluated) → e.count ≤ 4 → (fits_of t e ≡ true) ↔ Fits t e
unfolding fits_of
fits_is t e few = (
  λ h. record {
    same_count = eqb-true _ _ (both_l _ _ h);
    each_field = λ i l.
        field_fits _ _
        (implies_e _ _ (all_e 4 _ (both_r (eqb t.count e.count) _ h) i (omega arith)) (lt-ltb i e.count l));
  },
  λ f. both_i _ _ (eq-eqb _ _ f.same_count)
      (all_i 4 _ (λ i l. implies_i _ _ (λ u. fits_field_law _ _ (f.each_field i (ltb-true i e.count u))))),
)

-- ---- a defined template
module _ (a : Locality) (p : Process) where
  set_value : (x : Value) → is_set x ≡ true → x ≡ Value.Unset → ⊥
  unfolding is_set
  set_value x h e = never (rw e at h)

  value_set : (x : Value) → (x ≡ Value.Unset → ⊥) → is_set x ≡ true
  unfolding is_set
  value_set Value.Unset f = absurd (f refl)
  value_set (Value.Reading x) f = refl
  value_set (Value.Address l) f = refl

  defined_set : (k : Pattern) (v : ℕ) → defined_field p k ≡ true → k ≡ Pattern.Held v → variable_at p v ≡ Value.Unset → ⊥
  unfolding defined_field
  defined_set k v h e = set_value (variable_at p v) (rw e at h)

  set_defined :
      (k : Pattern) → ((v : ℕ) → k ≡ Pattern.Held v → variable_at p v ≡ Value.Unset → ⊥) → defined_field p k ≡ true
  unfolding defined_field
  set_defined (Pattern.Reading x) f = refl
  set_defined (Pattern.Address l) f = refl
  set_defined Pattern.Own f = refl
  set_defined (Pattern.Held v) f = value_set _ (f v refl)
  set_defined (Pattern.FormalReading v) f = refl
  set_defined (Pattern.FormalAddress v) f = refl

  -- each field of a defined template is defined
  field_defined :
      (c : Instruction) → c.count ≤ 4 → (evaluated_of a p c).defined ≡ true → (i : ℕ) → i < c.count
      → defined_field p (pattern_at c i) ≡ true
  unfolding evaluated_of
  field_defined c few h i l = implies_e _ _ (all_e 4 _ h i (omega arith)) (lt-ltb i c.count l)

  pub defined_is : (c : Instruction) → c.count ≤ 4 → ((evaluated_of a p c).defined ≡ true) ↔ AllSet p c
  unfolding evaluated_of
  defined_is c few = (
    λ h. record { each_set = λ i v l. defined_set (pattern_at c i) v (field_defined c few h i l) },
    λ f. all_i 4 _ (λ i l. implies_i _ _ (λ u. set_defined _ (λ v. f.each_set i v (ltb-true i c.count u)))),
  )

-- ---- what a template wants
abbrev past_wanted : Wanted
past_wanted = record { want = Want.Exactly (Item.Reading (ℤ.pos 0)) }

module _ (a : Locality) (p : Process) where
  held_wants : (v : ℕ) (x : Value) → variable_at p v ≡ x → is_set x ≡ true → Wants a p (Pattern.Held v) (Want.Exactly (held_item x))
  unfolding is_set held_item
  held_wants v Value.Unset e h = never h
  held_wants v (Value.Reading x) e h = held_reading e
  held_wants v (Value.Address l) e h = held_address e

  wants_of_law : (k : Pattern) → defined_field p k ≡ true → Wants a p k (want_of a p k)
  unfolding defined_field want_of
  wants_of_law (Pattern.Reading x) h = written_reading
  wants_of_law (Pattern.Address l) h = written_address
  wants_of_law Pattern.Own h = self_address
  wants_of_law (Pattern.Held v) h = held_wants v _ refl h
  wants_of_law (Pattern.FormalReading v) h = formal_reading_law
  wants_of_law (Pattern.FormalAddress v) h = formal_address_law

  of_wants : (k : Pattern) (w : Want) → Wants a p k w → want_of a p k ≡ w
  unfolding want_of held_item
  of_wants _ _ written_reading = refl
  of_wants _ _ written_address = refl
  of_wants _ _ self_address = refl
  of_wants _ _ (held_reading e) = rw e
  of_wants _ _ (held_address e) = rw e
  of_wants _ _ formal_reading_law = refl
  of_wants _ _ formal_address_law = refl

  -- the first j fields stand in their places
  Placed : Instruction → ℕ → List Wanted → Type 0
  Placed c j ws = Every (λ i w. i < j → i < c.count → w.want ≡ want_of a p (pattern_at c i)) past_wanted 4 ws

  placed : (c : Instruction) → Placed c 4 (wants_of a p c)
  unfolding wants_of Placed
  placed c =
      fold_keeps (Placed c) _ _ 4 (every_replicate _ past_wanted 4 zero_wanted (λ i l m. absurd (omega arith)))
      (λ j ws l g. chosen_lt (Placed c (suc j)) j c.count _ _
      (λ u. every_set j _ g (λ i w n f m. f (omega arith)) (λ m n. refl))
      (λ u. every_weaken g (λ i w f m n. f (omega arith) n)))

  want_is : (c : Instruction) (i : ℕ) → c.count ≤ 4 → i < c.count → want_at (evaluated_of a p c) i ≡ want_of a p (pattern_at c i)
  unfolding want_at evaluated_of Placed
  want_is c i few l = (placed c).holds i (omega arith) (omega arith) l

  pub wants_is :
      (c : Instruction) → c.count ≤ 4 → (evaluated_of a p c).defined ≡ true → (i : ℕ) (w : Want) → i < c.count
      → (want_at (evaluated_of a p c) i ≡ w) ↔ Wants a p (pattern_at c i) w
  wants_is c few h i w l = (
    λ e. subst (Wants a p (pattern_at c i)) (sym (want_is c i few l) ∙ e) (wants_of_law _ (field_defined a p c few h i l)),
    λ k. want_is c i few l ∙ of_wants _ w k,
  )
