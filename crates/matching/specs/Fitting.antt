-- What an evaluated template wants and when a tuple fits it, from outside (document 01, "One pick"; document 004, table 5):
-- no test is named here. `MatchingPromise.antt` says that the computed evaluation and the computed test are just this.
use Rattle.std.specs.Prelude.{ℕ, ◌<◌, ◌≡◌, ℤ}
use Rattle.matching.specs.Types.{Locality, Value, Item, Tuple, Process, Pattern, Instruction}
use Rattle.net.specs.Records.{field_at, variable_at, pattern_at}
use Rattle.matching.specs.Matching.{Want, Evaluated, want_at}

-- what a field of a template wants in the process p hosted at a, by the kind of the field. A variable's value is the one
-- that p holds, from before the step; of an unset variable nothing is wanted
pub data Wants (a : Locality) (p : Process) : Pattern → Want → Type 0 where
  written_reading : {x : ℤ} → Wants a p (Pattern.Reading x) (Want.Exactly (Item.Reading x))
  written_address : {l : Locality} → Wants a p (Pattern.Address l) (Want.Exactly (Item.Address l))
  self_address : Wants a p Pattern.Own (Want.Exactly (Item.Address a))
  held_reading :
      {v : ℕ} {x : ℤ} → variable_at p v ≡ Value.Reading x → Wants a p (Pattern.Held v) (Want.Exactly (Item.Reading x))
  held_address :
      {v : ℕ} {l : Locality}
      → variable_at p v ≡ Value.Address l
      → Wants a p (Pattern.Held v) (Want.Exactly (Item.Address l))
  formal_reading_law : {v : ℕ} → Wants a p (Pattern.FormalReading v) (Want.AnyReading v)
  formal_address_law : {v : ℕ} → Wants a p (Pattern.FormalAddress v) (Want.AnyAddress v)

-- each variable whose value a field of the template takes is set
pub record AllSet (p : Process) (c : Instruction) : Type 0 where
  pub each_set : (i v : ℕ) → i < c.count → pattern_at c i ≡ Pattern.Held v → variable_at p v ≡ Value.Unset → ⊥

-- the field of a tuple fits what is wanted in its place: "an actual equal in sort and value, a formal of the same sort"
pub data FieldFits : Item → Want → Type 0 where
  -- rules (M₁) and (M₃): match(V, V) and match(l, l)
  equal : {x : Item} → FieldFits x (Want.Exactly x)
  -- rule (M₂): match(!x, V)
  any_reading : {x : ℤ} {v : ℕ} → FieldFits (Item.Reading x) (Want.AnyReading v)
  -- rule (M₄): match(!u, l)
  any_address : {l : Locality} {v : ℕ} → FieldFits (Item.Address l) (Want.AnyAddress v)

-- the tuple fits: "equal field counts", and each field, as rule (M₅) says, one after the other
pub record Fits (t : Tuple) (e : Evaluated) : Type 0 where
  pub same_count : t.count ≡ e.count
  pub each_field : (i : ℕ) → i < e.count → FieldFits (field_at t i) (want_at e i)
