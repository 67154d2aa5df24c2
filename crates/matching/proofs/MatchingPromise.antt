-- The promise of `specs/MatchingPromise.antt`, from the definitions of `specs/Matching.antt`.
-- Assumes nothing.
use Prim.Native.Nat.{ℕ, suc, ◌<◌, ◌≤◌, min}
use mathlib.Core.Path.{◌≡◌, refl, sym, ap, subst, ◌∙◌}
use mathlib.Core.Logic.{◌↔◌, ◌⊎◌, inl, inr, ◌≢◌}
use mathlib.Core.Bool.{Bool, true, false}
use native.Mathlib.Omega.{arith}
use native.Mathlib.Decide.{ℕ_discrete}
use lib.Dec.{ltb, eqb}
use lib.IntN.{ℤ}
use lib.ListN.{length, length-set}
use lib.Seq.{get_or-set_same, get_or-set_other}
use borrow.Author.Tests.{ltb-true, lt-ltb, eqb-true}
use Rattle.std.specs.Prelude.{Option, Some, None}
use Rattle.net.specs.Choice.{both}
use Rattle.matching.specs.Types.{Locality, Value, Variable, Item, Tuple, Process, Node, Pattern, Instruction}
use Rattle.net.specs.Records.{marked, field_at, variable_at, tuple_at, pattern_at, with_variable}
use Rattle.matching.specs.Matching.{Want, Wanted, Evaluated, held_item, want_of, zero_wanted, wants_of, evaluated_of}
use Rattle.matching.specs.Matching.{want_at, fits_field, fits_of}
use Rattle.matching.specs.Matching.{is_reading, is_address, oldest_of, value_of, bound_field, bound_of, bound_at, matched_of}
use Rattle.matching.specs.MatchingPromise.{OldestThatFits, Holds, reading_met, address_met, as_before}
use Rattle.matching.specs.MatchingPromise.{Binding, MatchingPromise}
use Rattle.net.specs.Choice.{in_range}
use Rattle.sound.specs.Soundness.{item_sound, value_sound, pattern_sound, template_sound}
use Rattle.net.proofs.Laws.{both_i, both_l, both_r, both_false_r, implies_e, all_e, choose_true, split}
use Rattle.net.proofs.Every.{chosen_lt, Every, every_replicate, every_set}
use Rattle.net.proofs.Lowest.{Lowest, first_is, first_cases}
use Rattle.net.proofs.FoldLaws.{fold_keeps}
use Rattle.net.proofs.ReadingLaws.{same_reading_law}
use Rattle.matching.proofs.Fitting.{fits_is, defined_is, wants_is}

-- ---- the oldest tuple that fits
fit_test : Node → Evaluated → ℕ → Bool
fit_test x e i = both (ltb i x.stored) (fits_of (tuple_at x i) e)

both_false : (x y : Bool) → x ≡ true → both x y ≡ false → y ≡ false
unfolding both
both_false x y e h = rw e at h

oldest_lowest : (x : Node) (e : Evaluated) (i : ℕ) → x.stored ≤ 16 → Lowest 16 (fit_test x e) i ↔ OldestThatFits x e i
unfolding fit_test
oldest_lowest x e i few = (
  λ h.
      let l : i < x.stored = ltb-true _ _ (both_l _ _ h.holds) in
      record {
        present = l;
        fits = both_r _ _ h.holds;
        oldest = λ j m. both_false _ _ (lt-ltb j x.stored (omega arith)) (h.before j m);
      },
  λ h.
      let l : i < x.stored = h.present in
      record {
        below = omega arith;
        holds = both_i _ _ (lt-ltb _ _ l) h.fits;
        before = λ j m. sym (both_false_r _ _ (lt-ltb j x.stored (omega arith)) (h.oldest j m));
      },
)

found_at : (x : Node) (e : Evaluated) (i j : ℕ) → OldestThatFits x e j → Some j ≡ Some i → OldestThatFits x e i
found_at x e i j h q = let same : j ≡ i = cc in rw (← same) h

nothing_at : (x : Node) (e : Evaluated) (i : ℕ) → None ≡ Some i → OldestThatFits x e i
nothing_at x e i q = let z : ◌≡◌ {A = ℕ} 0 1 = cc in absurd (omega arith)

found_is_oldest : (x : Node) (e : Evaluated) (i : ℕ) → x.stored ≤ 16 → (oldest_of x e ≡ Some i) ↔ OldestThatFits x e i
unfolding oldest_of fit_test
found_is_oldest x e i few = (
  first_cases (λ f. f ≡ Some i → OldestThatFits x e i) 16 (fit_test x e) Some None
      (λ j h. found_at x e i j ((oldest_lowest x e j few).0 h)) (nothing_at x e i),
  λ h. first_is 16 (fit_test x e) Some None i ((oldest_lowest x e i few).1 h),
)

-- ---- a variable set
variable_same : (q : Process) (u : ℕ) (x : Value) → u < length q.variables → variable_at (with_variable q u x) u ≡ x
unfolding variable_at with_variable
variable_same q u x l = ap (λ (y : Variable). y.value) (get_or-set_same q.variables u _ _ l)

variable_other : (q : Process) (u v : ℕ) (x : Value) → v ≢ u → variable_at (with_variable q u x) v ≡ variable_at q v
unfolding variable_at with_variable
variable_other q u v x n = ap (λ (y : Variable). y.value) (get_or-set_other q.variables u v _ _ n)

-- ---- formals set, field by field
Named : Evaluated → ℕ → ℕ → Type 0
Named e i v = (want_at e i ≡ Want.AnyReading v) ⊎ (want_at e i ≡ Want.AnyAddress v)

module _ (e : Evaluated) (i v u : ℕ) where
  not_actual : (y : Item) → want_at e i ≡ Want.Exactly y → Named e i v → ⊥
  unfolding Named
  not_actual y h (inl n) = let z : ◌≡◌ {A = ℕ} 0 1 = cc in omega arith
  not_actual y h (inr n) = let z : ◌≡◌ {A = ℕ} 0 1 = cc in omega arith

  only_reading : want_at e i ≡ Want.AnyReading u → Named e i v → v ≡ u
  unfolding Named
  only_reading h (inl n) = cc
  only_reading h (inr n) = let z : ◌≡◌ {A = ℕ} 0 1 = cc in absurd (omega arith)

  only_address : want_at e i ≡ Want.AnyAddress u → Named e i v → v ≡ u
  unfolding Named
  only_address h (inl n) = let z : ◌≡◌ {A = ℕ} 0 1 = cc in absurd (omega arith)
  only_address h (inr n) = cc

module _ (p : Process) (t : Tuple) (e : Evaluated) where
  named_more :
      (i v : ℕ) → ((j : ℕ) → j < i → Named e j v → ⊥) → (Named e i v → ⊥) → (j : ℕ) → (j < i) ⊎ (j ≡ i) → Named e j v
      → ⊥
  named_more i v f g j (inl l) h = f j l h
  named_more i v f g j (inr q) h = g (rw q at h)

  -- field i does not name v
  holds_more : (i v : ℕ) (x : Value) → (Named e i v → ⊥) → Holds p t e i v x → Holds p t e (suc i) v x
  unfolding Named
  holds_more i v _ f (reading_met {i = j} l w g) = reading_met {i = j} (omega arith) w g
  holds_more i v _ f (address_met {i = j} l w g) = address_met {i = j} (omega arith) w g
  holds_more i v _ f (as_before h) = as_before (λ j l. named_more i v h f j (split j i l))

  -- field i names the variable u, and no other, and sets it to x
  module _
      (i u : ℕ) (q : Process) (x : Value) (b : Binding p t e i q) (only : (v : ℕ) → Named e i v → v ≡ u)
      (met : Holds p t e (suc i) u x)
    where
      set_at : (v : ℕ) → v < length p.variables → Dec (v ≡ u) → Holds p t e (suc i) v (variable_at (with_variable q u x) v)
      set_at v l (yes d) =
          let l' : u < length q.variables = omega (arith, b.same_size) in
          subst (λ (m : ℕ). Holds p t e (suc i) m (variable_at (with_variable q u x) m)) (sym d)
          (subst (Holds p t e (suc i) u) (sym (variable_same q u x l')) met)
      set_at v l (no d) =
          subst (Holds p t e (suc i) v) (sym (variable_other q u v x d))
          (holds_more i v _ (λ n. d (only v n)) (b.holds v l))

      set_binding : Binding p t e (suc i) (with_variable q u x)
      unfolding with_variable
      set_binding = record {
        same_busy = b.same_busy;
        same_place = b.same_place;
        same_origin = b.same_origin;
        same_size = length-set q.variables u _ ∙ b.same_size;
        holds = λ v l. set_at v l (ℕ_discrete v u);
      }

  -- field i is no formal
  kept_binding : (i : ℕ) (q : Process) → Binding p t e i q → ((v : ℕ) → Named e i v → ⊥) → Binding p t e (suc i) q
  kept_binding i q b none = record {
    same_busy = b.same_busy;
    same_place = b.same_place;
    same_origin = b.same_origin;
    same_size = b.same_size;
    holds = λ v l. holds_more i v _ (none v) (b.holds v l);
  }

  -- by the want of field i
  turn :
      (i : ℕ) (q : Process) (x : Item) (w : Want) → Binding p t e i q → field_at t i ≡ x → want_at e i ≡ w
      → fits_field x w ≡ true → Binding p t e (suc i) (bound_field q x w)
  unfolding bound_field fits_field value_of is_reading is_address
  turn i q x (Want.Exactly y) b f h g = kept_binding i q b (λ v. not_actual e i v 0 y h)
  turn i q (Item.Reading z) (Want.AnyReading u) b f h g =
      set_binding i u q _ b (λ v. only_reading e i v u h) (reading_met {i = i} (omega arith) h f)
  turn i q (Item.Address l) (Want.AnyReading u) b f h g = let z : ◌≡◌ {A = ℕ} 0 1 = cc in absurd (omega arith)
  turn i q (Item.Reading z) (Want.AnyAddress u) b f h g = let z : ◌≡◌ {A = ℕ} 0 1 = cc in absurd (omega arith)
  turn i q (Item.Address l) (Want.AnyAddress u) b f h g =
      set_binding i u q _ b (λ v. only_address e i v u h) (address_met {i = i} (omega arith) h f)

  start : Binding p t e 0 p
  start = record {
    same_busy = refl;
    same_place = refl;
    same_origin = refl;
    same_size = refl;
    holds = λ v l. as_before (λ i h. absurd (omega arith));
  }

  as_many : (m n : ℕ) (q : Process) → m ≡ n → Binding p t e m q → Binding p t e n q
  as_many m n q d b = rw d at b

  bound_sets : t.count ≤ 4 → fits_of t e ≡ true → Binding p t e t.count (bound_of p t e)
  unfolding bound_of fits_of
  bound_sets few h =
      let same : t.count ≡ e.count = eqb-true _ _ (both_l _ _ h) in
      as_many (min 4 e.count) t.count _ (omega arith)
      (fold_keeps (λ i. Binding p t e (min i e.count)) _ p 4 (as_many 0 _ p (omega arith) start)
      (λ i q l b. chosen_lt (Binding p t e (min (suc i) e.count)) i e.count _ _
      (λ u. as_many (suc i) _ _ (omega arith)
      (turn i q _ _ (as_many _ i q (omega arith) b) refl refl
      (implies_e _ _ (all_e 4 _ (both_r (eqb t.count e.count) _ h) i l) (lt-ltb i e.count u))))
      (λ u. as_many _ _ q (omega arith) b)))

-- ---- what a template wants exactly is within the net
held_sound : (n : ℕ) (x : Value) → value_sound n x ≡ true → item_sound n (held_item x) ≡ true
unfolding value_sound held_item item_sound
held_sound n Value.Unset h = refl
held_sound n (Value.Reading x) h = refl
held_sound n (Value.Address l) h = h

WantSound : ℕ → Want → Type 0
WantSound n w = (x : Item) → w ≡ Want.Exactly x → item_sound n x ≡ true

exactly_sound : (n : ℕ) (y : Item) → item_sound n y ≡ true → WantSound n (Want.Exactly y)
unfolding WantSound
exactly_sound n y h x d = let same : y ≡ x = cc in rw same at h

reading_sound : (n v : ℕ) → WantSound n (Want.AnyReading v)
unfolding WantSound
reading_sound n v x d = let z : ◌≡◌ {A = ℕ} 0 1 = cc in absurd (omega arith)

address_sound : (n v : ℕ) → WantSound n (Want.AnyAddress v)
unfolding WantSound
address_sound n v x d = let z : ◌≡◌ {A = ℕ} 0 1 = cc in absurd (omega arith)

abbrev past_wanted : Wanted
past_wanted = record { want = Want.Exactly (Item.Reading (ℤ.pos 0)) }

module _
    (n : ℕ) (a : Locality) (p : Process) (hosted : a.0 < n)
    (values : (v : ℕ) → v < 8 → value_sound n (variable_at p v) ≡ true)
  where
    want_sound : (x : Pattern) → pattern_sound n x ≡ true → WantSound n (want_of a p x)
    unfolding pattern_sound want_of item_sound
    want_sound (Pattern.Reading x) h = exactly_sound n _ refl
    want_sound (Pattern.Address l) h = exactly_sound n _ h
    want_sound Pattern.Own h = exactly_sound n _ (lt-ltb a.0 n hosted)
    want_sound (Pattern.Held v) h = exactly_sound n _ (held_sound n _ (values v (ltb-true v 8 h)))
    want_sound (Pattern.FormalReading v) h = reading_sound n v
    want_sound (Pattern.FormalAddress v) h = address_sound n v

    wants_sound :
        (c : Instruction) → template_sound n c ≡ true → Every (λ i w. WantSound n w.want) past_wanted 4 (wants_of a p c)
    unfolding wants_of template_sound zero_wanted item_sound
    wants_sound c h =
        fold_keeps (λ i. Every (λ j w. WantSound n w.want) past_wanted 4) _ _ 4
        (every_replicate _ past_wanted 4 zero_wanted (λ j l. exactly_sound n _ refl))
        (λ i ws l g. chosen_lt (Every (λ j w. WantSound n w.want) past_wanted 4) i c.count _ _
        (λ u. every_set i _ g (λ j w d f. f)
        (want_sound (pattern_at c i)
        (sym (choose_true _ _ _ (lt-ltb i c.count u)) ∙ all_e 4 _ (both_r (in_range 1 c.count 4) _ h) i l)))
        (λ u. g))

    wants_in_range :
        (c : Instruction) → template_sound n c ≡ true → (i : ℕ) (x : Item) → i < 4
        → want_at (evaluated_of a p c) i ≡ Want.Exactly x → item_sound n x ≡ true
    unfolding want_at evaluated_of WantSound
    wants_in_range c h i x l = (wants_sound c h).holds i l x

-- ---- what is found is stored
found_is_stored : (x : Node) (e : Evaluated) (i : ℕ) → oldest_of x e ≡ Some i → i < x.stored
unfolding oldest_of
found_is_stored x e i =
    first_cases (λ f. f ≡ Some i → i < x.stored) 16 _ Some None
    (λ j h d. let same : j ≡ i = cc in rw (← same) (ltb-true _ _ (both_l _ _ h.holds)))
    (λ d. let z : ◌≡◌ {A = ℕ} 0 1 = cc in absurd (omega arith))

mark_aside :
    (t : Tuple) (a : Locality) (p : Process) (e : Evaluated)
    → (fits_of (marked a t) e ≡ fits_of t e) × (bound_of p (marked a t) e ≡ bound_of p t e)
unfolding fits_of bound_of field_at marked
mark_aside t a p e = (refl, refl)

pub matching_promise : MatchingPromise
unfolding matched_of bound_at evaluated_of want_at
matching_promise = record {
  defines = defined_is;
  wants = wants_is;
  fits = fits_is;
  finds = λ p x e i. found_is_oldest x e i;
  stored = λ p x e i. found_is_stored x e i;
  binds = λ p x e i d. ap (λ (f : Option ℕ). bound_at f p x e) d;
  leaves = λ p x e d. ap (λ (f : Option ℕ). bound_at f p x e) d;
  sets = bound_sets;
  marks = mark_aside;
  counts = λ a p c. refl;
  ranges = λ n a p c hosted values. wants_in_range n a p hosted values c;
  reads = λ e i. refl;
  same = same_reading_law;
}
