-- What matching promises to the crates above it (document 01, "One pick": "the stepping part rests on the written
-- promise of the fitting part and on none of its inner text"). The proofs of `step`, and those of `run` and `tenant` over
-- it, cite these clauses and open no definition of `Matching.antt`; `edges` opens all, to compute the starred edges.
use Rattle.std.specs.Prelude.{ℕ, ◌<◌, ◌≤◌, ◌≡◌, ◌↔◌, ◌⊎◌, true, false, length, get_or, ℤ, Some, None}
use Rattle.matching.specs.Types.{Locality, Value, Item, Tuple, Process, Node, Instruction}
use Rattle.net.specs.Records.{field_at, variable_at, tuple_at, pattern_at, marked}
use Rattle.matching.specs.Matching.{Want, Evaluated}
use Rattle.matching.specs.Matching.{evaluated_of, want_at, fits_of, bound_of, matched_of}
use Rattle.net.specs.Readings.{same_reading}
use Rattle.matching.specs.Fitting.{Wants, AllSet, Fits}
use Rattle.sound.specs.Soundness.{item_sound, value_sound, template_sound}

-- the tuple at place i of the node fits, and no older one does
pub record OldestThatFits (x : Node) (e : Evaluated) (i : ℕ) : Type 0 where
  pub present : i < x.stored
  pub fits : fits_of (tuple_at x i) e ≡ true
  pub oldest : (j : ℕ) → j < i → fits_of (tuple_at x j) e ≡ false

-- what variable v of the process p holds once the first n fields of the template e have met those of the tuple t: the
-- field that a formal of v met, which has the formal's sort, or, where none of them is a formal of v, what it held before
pub data Holds (p : Process) (t : Tuple) (e : Evaluated) (n v : ℕ) : Value → Type 0 where
  reading_met :
      {i : ℕ} {x : ℤ}
      → i < n
      → want_at e i ≡ Want.AnyReading v
      → field_at t i ≡ Item.Reading x
      → Holds p t e n v (Value.Reading x)
  address_met :
      {i : ℕ} {l : Locality}
      → i < n
      → want_at e i ≡ Want.AnyAddress v
      → field_at t i ≡ Item.Address l
      → Holds p t e n v (Value.Address l)
  as_before :
      ((i : ℕ) → i < n → (want_at e i ≡ Want.AnyReading v) ⊎ (want_at e i ≡ Want.AnyAddress v) → ⊥)
      → Holds p t e n v (variable_at p v)

-- the process q is p with its variables so set, and nothing else changed
pub record Binding (p : Process) (t : Tuple) (e : Evaluated) (n : ℕ) (q : Process) : Type 0 where
  pub same_busy : q.busy ≡ p.busy
  pub same_place : q.at ≡ p.at
  pub same_origin : q.origin ≡ p.origin
  pub same_size : length q.variables ≡ length p.variables
  pub holds : (v : ℕ) → v < length p.variables → Holds p t e n v (variable_at q v)

pub record MatchingPromise : Type 0 where
  -- a template is defined exactly when each variable whose value it takes is set
  pub defines :
      (a : Locality) (p : Process) (c : Instruction)
      → c.count ≤ 4
      → ((evaluated_of a p c).defined ≡ true) ↔ AllSet p c
  -- each field of a defined template wants what its kind says, and nothing else
  pub wants :
      (a : Locality) (p : Process) (c : Instruction)
      → c.count ≤ 4
      → (evaluated_of a p c).defined ≡ true
      → (i : ℕ) (w : Want)
      → i < c.count
      → (want_at (evaluated_of a p c) i ≡ w) ↔ Wants a p (pattern_at c i) w
  -- a tuple fits exactly when it has as many fields and each of them fits
  pub fits : (t : Tuple) (e : Evaluated) → e.count ≤ 4 → (fits_of t e ≡ true) ↔ Fits t e
  -- "the oldest tuple that fits" is found, and nothing else
  pub finds :
      (p : Process) (x : Node) (e : Evaluated) (i : ℕ)
      → x.stored ≤ 16
      → ((matched_of p x e).found ≡ Some i) ↔ OldestThatFits x e i
  -- what is found is a stored tuple, whatever the node
  pub stored :
      (p : Process) (x : Node) (e : Evaluated) (i : ℕ) → (matched_of p x e).found ≡ Some i → i < x.stored
  -- the process is then the one bound to that tuple
  pub binds :
      (p : Process) (x : Node) (e : Evaluated) (i : ℕ)
      → (matched_of p x e).found ≡ Some i
      → (matched_of p x e).process ≡ bound_of p (tuple_at x i) e
  -- and where no tuple fits it is unchanged: no formal is bound before the whole template fits
  pub leaves :
      (p : Process) (x : Node) (e : Evaluated)
      → (matched_of p x e).found ≡ None
      → (matched_of p x e).process ≡ p
  -- "Formals are then set"
  pub sets :
      (p : Process) (t : Tuple) (e : Evaluated)
      → t.count ≤ 4
      → fits_of t e ≡ true
      → Binding p t e t.count (bound_of p t e)
  -- "It takes no part in fitting" (document 02, slip 8): two tuples that differ in the mark alone fit the same templates, and
  -- bind the same
  pub marks :
      (t : Tuple) (a : Locality) (p : Process) (e : Evaluated)
      → (fits_of (marked a t) e ≡ fits_of t e) × (bound_of p (marked a t) e ≡ bound_of p t e)
  -- an evaluated template has the fields of its instruction
  pub counts : (a : Locality) (p : Process) (c : Instruction) → (evaluated_of a p c).count ≡ c.count
  -- and in a net of n addresses, what it wants exactly is within the net
  pub ranges :
      (n : ℕ) (a : Locality) (p : Process) (c : Instruction)
      → a.0 < n
      → ((v : ℕ) → v < 8 → value_sound n (variable_at p v) ≡ true)
      → template_sound n c ≡ true
      → (i : ℕ) (x : Item)
      → i < 4
      → want_at (evaluated_of a p c) i ≡ Want.Exactly x
      → item_sound n x ≡ true
  -- a want is read from its place, and a reading equals itself
  pub reads :
      (e : Evaluated) (i : ℕ)
      → want_at e i ≡ (get_or e.wants i (record { want = Want.Exactly (Item.Reading (ℤ.pos 0)) })).want
  pub same : (x : ℤ) → same_reading x x ≡ true
