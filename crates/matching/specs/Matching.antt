-- Matching (document 01, "One pick"; document 004, table 5): a template is evaluated, the oldest tuple that fits is
-- found, and only then are its formals bound.
pub use Rattle.matching.specs.declared.template.Want.{Want}
pub use Rattle.matching.specs.declared.template.Wanted.{Wanted}
pub use Rattle.matching.specs.declared.template.Evaluated.{Evaluated}
pub use Rattle.matching.specs.declared.template.Matched.{Matched}
use Rattle.std.specs.Prelude.{ℕ, Bool, true, false, List, get_or, set, replicate, eqb, ltb, ℤ, Option, Some, None}
use Rattle.net.specs.Choice.{choose, both, implies, all, first_below, fold}
use Rattle.net.specs.Readings.{same_reading}
use Rattle.matching.specs.Types.{Locality, Value, Item, Tuple, Process, Node, Pattern, Instruction}
use Rattle.net.specs.Records.{field_at, variable_at, tuple_at, pattern_at, with_variable}

-- ---- evaluating a template, with the variables as they are before the step

-- the variable's value is there
unfoldable pub is_set : Value → Bool
is_set Value.Unset = false
is_set (Value.Reading x) = true
is_set (Value.Address l) = true

-- the item that a variable holds; an unset variable, whose template is not defined, counts as nought
unfoldable pub held_item : Value → Item
held_item Value.Unset = Item.Reading (ℤ.pos 0)
held_item (Value.Reading x) = Item.Reading x
held_item (Value.Address l) = Item.Address l

unfoldable pub defined_field : Process → Pattern → Bool
defined_field p (Pattern.Reading x) = true
defined_field p (Pattern.Address l) = true
defined_field p Pattern.Own = true
defined_field p (Pattern.Held v) = is_set (variable_at p v)
defined_field p (Pattern.FormalReading v) = true
defined_field p (Pattern.FormalAddress v) = true

unfoldable pub want_of : Locality → Process → Pattern → Want
want_of host p (Pattern.Reading x) = Want.Exactly (Item.Reading x)
want_of host p (Pattern.Address l) = Want.Exactly (Item.Address l)
want_of host p Pattern.Own = Want.Exactly (Item.Address host)
want_of host p (Pattern.Held v) = Want.Exactly (held_item (variable_at p v))
want_of host p (Pattern.FormalReading v) = Want.AnyReading v
want_of host p (Pattern.FormalAddress v) = Want.AnyAddress v

unfoldable pub zero_wanted : Wanted
zero_wanted = record { want = Want.Exactly (Item.Reading (ℤ.pos 0)) }

-- the wants of the first `count` fields, in their places
unfoldable pub wants_of : Locality → Process → Instruction → List Wanted
wants_of host p c =
    fold 4
    (λ i ws. choose (ltb i c.count) (set ws i (record { want = want_of host p (pattern_at c i) })) ws)
    (replicate 4 zero_wanted)

unfoldable pub evaluated_of : Locality → Process → Instruction → Evaluated
evaluated_of host p c = record {
  defined = all 4 (λ i. implies (ltb i c.count) (defined_field p (pattern_at c i)));
  count = c.count;
  wants = wants_of host p c;
}

unfoldable pub want_at : Evaluated → ℕ → Want
want_at e i = (get_or e.wants i (record { want = Want.Exactly (Item.Reading (ℤ.pos 0)) })).want

-- ---- fitting: equal field counts, an actual equal in sort and value, a formal of the same sort

unfoldable pub same_item : Item → Item → Bool
same_item (Item.Reading x) (Item.Reading y) = same_reading x y
same_item (Item.Reading x) (Item.Address m) = false
same_item (Item.Address l) (Item.Reading y) = false
same_item (Item.Address l) (Item.Address m) = eqb l.0 m.0

unfoldable pub is_reading : Item → Bool
is_reading (Item.Reading x) = true
is_reading (Item.Address l) = false

unfoldable pub is_address : Item → Bool
is_address (Item.Reading x) = false
is_address (Item.Address l) = true

unfoldable pub fits_field : Item → Want → Bool
fits_field x (Want.Exactly y) = same_item x y
fits_field x (Want.AnyReading v) = is_reading x
fits_field x (Want.AnyAddress v) = is_address x

unfoldable pub fits_of : Tuple → Evaluated → Bool
fits_of t e =
    both (eqb t.count e.count) (all 4 (λ i. implies (ltb i e.count) (fits_field (field_at t i) (want_at e i))))

-- the oldest tuple of the node that fits: tuples stand oldest first
unfoldable pub oldest_of : Node → Evaluated → Option ℕ
oldest_of n e = first_below 16 (λ i. both (ltb i n.stored) (fits_of (tuple_at n i) e)) Some None

-- ---- binding: each formal's variable is set to the field that it met

unfoldable pub value_of : Item → Value
value_of (Item.Reading x) = Value.Reading x
value_of (Item.Address l) = Value.Address l

unfoldable pub bound_field : Process → Item → Want → Process
bound_field p x (Want.Exactly y) = p
bound_field p x (Want.AnyReading v) = with_variable p v (value_of x)
bound_field p x (Want.AnyAddress v) = with_variable p v (value_of x)

unfoldable pub bound_of : Process → Tuple → Evaluated → Process
bound_of p t e = fold 4 (λ i q. choose (ltb i e.count) (bound_field q (field_at t i) (want_at e i)) q) p

-- ---- what the crate above calls: which tuple an evaluated template meets at a node, and the process afterwards, which
-- is unchanged where none fits. What it may rest on is in `MatchingPromise.antt`
unfoldable pub bound_at : Option ℕ → Process → Node → Evaluated → Process
bound_at (Some i) p n e = bound_of p (tuple_at n i) e
bound_at None p n e = p

unfoldable pub matched_of : Process → Node → Evaluated → Matched
matched_of p n e = record { found = oldest_of n e; process = bound_at (oldest_of n e) p n e }
