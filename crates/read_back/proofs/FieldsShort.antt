-- How long the parts of a line are in the notation (`Printed.antt` of `sources`), where they are well formed for at most 16 addresses:
-- a field has at most 11 bytes, four with their commas at most 47. Assumes nothing.
use Prim.Native.Nat.{ℕ, zero, suc, ◌+◌, ◌-◌, ◌*◌, ◌<◌, ◌≤◌}
use mathlib.Core.Path.{◌≡◌, refl, sym, ap, ◌∙◌}
use mathlib.Core.Bool.{Bool}
use mathlib.Core.List.{List, [], ◌∷◌, ◌++◌, map}
use native.Mathlib.Omega.{arith}
use native.Mathlib.Decide.{dec_le}
use lib.ListN.{length, take, length-append, length-map}
use lib.Seq.{take_at}
use borrow.Author.Tests.{ltb-true}
use Rattle.net.specs.Choice.{choose}
use Rattle.net.specs.Groups.{member, members_below, members_of}
use Rattle.net.specs.Records.{address_of}
use Rattle.net.proofs.Every.{chosen}
use Rattle.text.specs.Bytes.{bytes}
use Rattle.text.specs.Decimal.{decimal}
use Rattle.sound.specs.Soundness.{item_sound, target_sound, pattern_sound}
use Rattle.fresh.specs.Fresh.{item_fits, pattern_fits}
use Rattle.sources.specs.Printed.{separated, address_text, item_text, tuple_text, pattern_text, template_text, target_text, group_text}
use Rattle.sources.specs.WellFormed.{Each, none, more, ItemFormed, tuple_of, TupleFormed, template_of, PatternFormed, TemplateFormed, TargetFormed}
use Rattle.read_back.specs.Types.{Locality, Group, Item, Field, Tuple, Target, Pattern, TemplateField, Instruction}
use Rattle.read_back.proofs.Listed.{map-append}
use Rattle.read_back.proofs.NumbersShort.{one_digit, two_digits, reading_short}

-- ---- parts with commas between them: each with a comma, but for the last
unfoldable weight : List (List ℕ) → ℕ
weight [] = 0
weight (x ∷ xs) = suc (length x) + weight xs

separated_short : (xs : List (List ℕ)) → length (separated xs) ≤ weight xs - 1
unfolding separated weight
separated_short [] = omega arith
separated_short (x ∷ []) = omega arith
separated_short (x ∷ y ∷ xs) = simp length-append (omega (arith, separated_short (y ∷ xs)))

module _ {X : Type 0} {R : List X → X → Type 0} (text : X → List ℕ) (short : (before : List X) (x : X) → R before x → length (text x) ≤ 11) where
  weight_fields : {xs : List X} (ys : List X) → Each R xs ys → weight (map text ys) ≤ 12 * length ys
  unfolding weight
  weight_fields _ none = omega arith
  weight_fields _ (more {xs = xs} {y = y} {ys = ys} r e) =
      let rest = weight_fields ys e in
      omega (arith, short xs y r)

  fields_short : (ys : List X) → length ys ≤ 4 → Each R [] ys → length (separated (map text ys)) ≤ 47
  fields_short ys h e = omega (arith, separated_short (map text ys), weight_fields ys e)

-- the texts of fields that an array of records holds, of which it is the first ones
module _ {X F : Type 0} (wrap : X → F) (field : F → X) (same : (x : X) → field (wrap x) ≡ x) (text : X → List ℕ) where
  texts : (xs : List X) → map (λ f. text (field f)) (map wrap xs) ≡ map text xs
  texts [] = refl
  texts (x ∷ xs) = λ d. text (same x d) ∷ texts xs d

  first_texts : (xs : List X) (zs : List F) → map (λ f. text (field f)) (take (length xs) (map wrap xs ++ zs)) ≡ map text xs
  first_texts xs zs = ap (map (λ f. text (field f))) (take_at (map wrap xs) zs (length xs) (length-map xs wrap)) ∙ texts xs

module _ (n : ℕ) (few : n ≤ 16) where
  address_short : (l : Locality) → l.0 < n → length (address_text l) ≤ 2
  unfolding address_text
  address_short l h = two_digits l.0 (omega arith)

  variable_short : (v : ℕ) → v < 8 → length (decimal v) ≤ 1
  variable_short v h = one_digit v (omega arith)

  -- ---- tuples
  item_short : (before : List Item) (x : Item) → ItemFormed n before x → length (item_text x) ≤ 11
  unfolding item_text item_sound item_fits bytes
  item_short before (Item.Reading x) f = reading_short x f.fits
  item_short before (Item.Address l) f = omega (arith, address_short l (ltb-true l.0 n f.in_range_law))

  pub tuple_short : (t : Tuple) → TupleFormed n t → length (tuple_text t) ≤ 49
  unfolding tuple_text tuple_of bytes
  tuple_short t f =
      let items = fields_short item_text item_short f.items f.few f.each in
      let same : separated (map (λ (x : Field). item_text x.item) (take t.count t.fields)) ≡ separated (map item_text f.items) =
      ap (λ (u : Tuple). separated (map (λ (x : Field). item_text x.item) (take u.count u.fields))) (sym f.is)
      ∙ ap separated (first_texts (λ x. record { item = x }) (λ (y : Field). y.item) (λ x. refl) item_text f.items _) in
      let inner = ap length same in
      omega (arith, length-append (separated (map (λ (x : Field). item_text x.item) (take t.count t.fields))) (62 ∷ []))

  -- ---- templates
  pattern_short : {formals : Bool} (before : List Pattern) (x : Pattern) → PatternFormed formals n before x → length (pattern_text x) ≤ 11
  unfolding pattern_text pattern_sound pattern_fits bytes
  pattern_short before (Pattern.Reading x) f = reading_short x f.fits
  pattern_short before (Pattern.Address l) f = omega (arith, address_short l (ltb-true l.0 n f.in_range_law))
  pattern_short before Pattern.Own f = omega arith
  pattern_short before (Pattern.Held v) f = omega (arith, variable_short v (ltb-true v 8 f.in_range_law))
  pattern_short before (Pattern.FormalReading v) f = omega (arith, variable_short v (ltb-true v 8 f.in_range_law))
  pattern_short before (Pattern.FormalAddress v) f = omega (arith, variable_short v (ltb-true v 8 f.in_range_law))

  pub template_short : {formals : Bool} (c : Instruction) → TemplateFormed formals n c → length (template_text c) ≤ 47
  unfolding template_text template_of
  template_short c f =
      let patterns = fields_short pattern_text pattern_short f.patterns f.few f.each in
      let same : template_text c ≡ separated (map pattern_text f.patterns) =
      ap template_text (sym f.is)
      ∙ ap separated (first_texts (λ x. record { pattern = x }) (λ (y : TemplateField). y.pattern) (λ x. refl) pattern_text f.patterns _) in
      omega (arith, ap length same)

  -- ---- targets
  pub target_short : (t : Target) → TargetFormed n t → length (target_text t) ≤ 4
  unfolding target_text target_sound bytes
  target_short (Target.Written l) f = omega (arith, address_short l (ltb-true l.0 n f.in_range_law))
  target_short Target.Own f = omega arith
  target_short (Target.Held v) f = omega (arith, variable_short v (ltb-true v 8 f.in_range_law))

-- ---- sets: ten addresses of one digit and six of two
weight_append : (xs ys : List (List ℕ)) → weight (xs ++ ys) ≡ weight xs + weight ys
unfolding weight
weight_append [] ys = omega arith
weight_append (x ∷ xs) ys = let rest = weight_append xs ys in omega arith

last_weight :
    (g : Group) (i : ℕ) → weight (map address_text (choose (member g (address_of i)) (address_of i ∷ []) [])) ≤ suc (length (decimal i))
unfolding weight address_text
last_weight g i =
    chosen (λ (ls : List Locality). weight (map address_text ls) ≤ suc (length (decimal i))) (member g (address_of i)) _ _
    (λ e. omega arith) (λ e. omega arith)

weight_members : (g : Group) (i : ℕ) → i ≤ 16 → weight (map address_text (members_below i g)) ≤ 2 * i + (i - 10)
unfolding members_below weight
weight_members g zero h = omega arith
weight_members g (suc i) h = go (weight_members g i (omega arith)) (dec_le 10 i)
  where
    go :
        weight (map address_text (members_below i g)) ≤ 2 * i + (i - 10) → Dec (10 ≤ i)
        → weight (map address_text (members_below (suc i) g)) ≤ 2 * suc i + (suc i - 10)
    go before (yes l) = simp (map-append, weight_append) (omega (arith, last_weight g i, two_digits i (omega arith)))
    go before (no l) = simp (map-append, weight_append) (omega (arith, last_weight g i, one_digit i (omega arith)))

pub group_short : (g : Group) → length (group_text g) ≤ 39
unfolding group_text members_of bytes
group_short g =
    simp length-append
    (omega (arith, weight_members g 16 (omega arith), separated_short (map address_text (members_below 16 g))))
