-- The words of one field, and of a target (`specs/Fields.antt`, `specs/Heads.antt`), for the process p that has the words ws and is hosted
-- at a: whether its value is there, which words fit it, what an out makes of it, where it points.
-- Assumes nothing.
use Prim.Native.Nat.{ℕ, ◌%◌, ◌<◌, ◌≤◌}
use mathlib.Core.Path.{◌≡◌, refl, sym, ap, subst, ◌∙◌}
use mathlib.Core.Bool.{true, not}
use mathlib.Core.List.{List}
use native.Mathlib.Omega.{arith}
use lib.Dec.{eqb, leb, ltb}
use lib.IntN.{ℤ}
use lib.ListN.{get_or}
use borrow.Author.Tests.{ltb-true, lt-ltb, le-leb, ne_eqb, eqb-false, not-true}
use Rattle.std.specs.Prelude.{Some, None}
use Rattle.net.specs.Choice.{choose, both, in_range}
use Rattle.net.specs.Records.{address_of, variable_at}
use Rattle.net.specs.declared.tuple.Item.{Item}
use Rattle.net.specs.declared.process.Process.{Process}
use Rattle.net.specs.declared.instruction.Pattern.{Pattern}
use Rattle.net.specs.declared.instruction.Target.{Target}
use Rattle.net.proofs.Laws.{both_end, choose_true}
use Rattle.net.proofs.ReadingLaws.{never}
use Rattle.matching.specs.Matching.{held_item, defined_field, want_of, same_item, fits_field}
use Rattle.sound.specs.Soundness.{pattern_sound, is_actual, target_sound}
use Rattle.plans.specs.Request.{target_of}
use Rattle.plans.specs.Additions.{item_of}
use Rattle.lean_words.specs.Items.{reading_word, item_word, item_in, value_in}
use Rattle.lean_code.specs.Fields.{actual_words, formal_words, field_words, word_from, is_there}
use Rattle.lean_code.specs.Heads.{target_written, target_from}
use Rattle.lean_code.specs.Ranged.{RangedItem, RangedSlot}
use Rattle.lean_words.proofs.BackLaws.{word_above, reading_back}
use Rattle.lean_code.proofs.WordLaws.{Addressed, item_address, item_reading, item_addressed}
use Rattle.lean_code.proofs.WordLaws.{word_of_item, reading_above, address_below, item_same, in_one, value_set, held_item_law, aim_in}

-- the words of a field: from where it comes, the lowest and the highest that fit it
abbrev pub from_of : Pattern → ℕ
from_of k = get_or (field_words k) 0 0

abbrev pub low_of : List ℕ → ℕ → Pattern → ℕ
low_of ws a k = word_from ws a (from_of k) (get_or (field_words k) 1 0)

abbrev pub high_of : List ℕ → ℕ → Pattern → ℕ
high_of ws a k = word_from ws a (from_of k) (get_or (field_words k) 2 0)

-- ---- from where a word comes
module _ (ws : List ℕ) (a : ℕ) where
  pub from_code : (w : ℕ) → word_from ws a 9 w ≡ w
  unfolding word_from choose
  from_code w = refl

  pub from_host : (w : ℕ) → word_from ws a 25 w ≡ a
  unfolding word_from choose
  from_host w = refl

  pub from_variable : (v w : ℕ) → v < 8 → word_from ws a v w ≡ get_or ws v 0
  unfolding word_from choose
  from_variable v w h =
      let e : v % 16 ≡ v = omega arith in
      rw (ne_eqb v 9 (λ z. omega (arith, z)), ne_eqb v 25 (λ z. omega (arith, z)), e)

-- every word of a formal's sort fits it
any_reading : (x : ℕ) → x < 4294967553 → in_range 257 x 8589934592 ≡ leb 257 x
unfolding in_range
any_reading x h = ap (both (leb 257 x)) (le-leb x 8589934592 (omega arith)) ∙ both_end (leb 257 x)

any_address : (x : ℕ) → in_range 0 x 256 ≡ leb x 256
unfolding in_range both
any_address x = rw (le-leb 0 x (omega arith))

module _
    (n a : ℕ) (ws : List ℕ) (p : Process) (few : n ≤ 16) (hosted : a < n) (r : RangedSlot ws)
    (values : (v : ℕ) → v < 8 → variable_at p v ≡ value_in (get_or ws v 0))
  where
    -- ---- the value is there
    origin_there : is_there ws 9 ≡ true
    unfolding is_there
    origin_there = ap not (ne_eqb (get_or ws 9 0) 256 (λ e. omega (arith, e, r.origin)))

    variable_there : (v : ℕ) → v < 8 → is_there ws v ≡ not (eqb (get_or ws v 0) 256)
    unfolding is_there
    variable_there v h = let e : v % 16 ≡ v = omega arith in rw e

    pub field_there : (k : Pattern) → pattern_sound n k ≡ true → is_there ws (from_of k) ≡ defined_field p k
    unfolding field_words actual_words formal_words defined_field pattern_sound is_there
    field_there (Pattern.Reading x) h = origin_there
    field_there (Pattern.Address l) h = origin_there
    field_there Pattern.Own h = origin_there
    field_there (Pattern.Held v) h =
        let l : v < 8 = ltb-true v 8 h in
        rw (values v l, value_set (get_or ws v 0)) (variable_there v l)
    field_there (Pattern.FormalReading v) h = origin_there
    field_there (Pattern.FormalAddress v) h = origin_there

    -- a variable that is set
    held_ranged : (v : ℕ) → v < 8 → is_there ws v ≡ true → RangedItem (get_or ws v 0)
    held_ranged v l h = record {
      below = r.variables v l;
      there = eqb-false _ _ (not-true _ (sym (variable_there v l) ∙ h));
    }

    held_value : (v : ℕ) → v < 8 → is_there ws v ≡ true → held_item (variable_at p v) ≡ item_in (get_or ws v 0)
    held_value v l h = ap held_item (values v l) ∙ held_item_law _ (held_ranged v l h).there

    -- ---- the words that fit
    held_fits :
        (v x : ℕ) → v < 8 → is_there ws v ≡ true → RangedItem x
        → in_range (word_from ws a v 0) x (word_from ws a v 0) ≡ same_item (item_in x) (held_item (variable_at p v))
    held_fits v x l h g =
        let w : ℕ = get_or ws v 0 in
        let known : RangedItem w = held_ranged v l h in
        ap (λ (y : ℕ). in_range y x y) (from_variable ws a v 0 l)
        ∙ in_one w x
        ∙ sym (ap (eqb x) (word_of_item w known))
        ∙ sym (item_same x (item_in w) g (item_addressed w))
        ∙ ap (same_item (item_in x)) (sym (held_value v l h))

    pub field_fits :
        (k : Pattern) (x : ℕ) → pattern_sound n k ≡ true → is_there ws (from_of k) ≡ true → RangedItem x
        → in_range (low_of ws a k) x (high_of ws a k) ≡ fits_field (item_in x) (want_of (address_of a) p k)
    unfolding field_words actual_words formal_words word_from choose fits_field want_of pattern_sound item_word Addressed
    field_fits (Pattern.Reading z) x s h g = in_one (reading_word z) x ∙ sym (item_same x (Item.Reading z) g tt)
    field_fits (Pattern.Address l) x s h g =
        let below : l.0 < n = ltb-true l.0 n s in
        in_one l.0 x ∙ sym (item_same x (Item.Address l) g (omega arith))
    field_fits Pattern.Own x s h g = in_one a x ∙ sym (item_same x (Item.Address (address_of a)) g (omega arith))
    field_fits (Pattern.Held v) x s h g = held_fits v x (ltb-true v 8 s) h g
    field_fits (Pattern.FormalReading v) x s h g = any_reading x g.below ∙ sym (reading_above x)
    field_fits (Pattern.FormalAddress v) x s h g = any_address x ∙ sym (address_below x)

    -- ---- what an out makes of a field: its word, and what that stands for
    pub field_ranged :
        (k : Pattern) → pattern_sound n k ≡ true → is_actual k ≡ true → is_there ws (from_of k) ≡ true
        → ((z : ℤ) → k ≡ Pattern.Reading z → reading_word z < 4294967553) → RangedItem (low_of ws a k)
    unfolding field_words actual_words formal_words word_from choose pattern_sound is_actual
    field_ranged (Pattern.Reading z) s o h f = record { below = f z refl; there = λ e. omega (arith, e, word_above z) }
    field_ranged (Pattern.Address l) s o h f =
        let below : l.0 < n = ltb-true l.0 n s in
        record { below = omega arith; there = λ e. omega (arith, e) }
    field_ranged Pattern.Own s o h f = record { below = omega arith; there = λ e. omega (arith, e) }
    field_ranged (Pattern.Held v) s o h f =
        subst RangedItem (sym (from_variable ws a v 0 (ltb-true v 8 s))) (held_ranged v (ltb-true v 8 s) h)
    field_ranged (Pattern.FormalReading v) s o h f = never o
    field_ranged (Pattern.FormalAddress v) s o h f = never o

    pub field_item :
        (k : Pattern) → pattern_sound n k ≡ true → is_actual k ≡ true → is_there ws (from_of k) ≡ true
        → ((z : ℤ) → k ≡ Pattern.Reading z → reading_word z < 4294967553)
        → item_in (low_of ws a k) ≡ item_of (want_of (address_of a) p k)
    unfolding field_words actual_words formal_words word_from choose pattern_sound is_actual want_of item_of
    field_item (Pattern.Reading z) s o h f =
        item_reading (reading_word z) (word_above z) ∙ ap Item.Reading (reading_back z (f z refl))
    field_item (Pattern.Address l) s o h f =
        let below : l.0 < n = ltb-true l.0 n s in item_address l.0 (omega arith)
    field_item Pattern.Own s o h f = item_address a (omega arith)
    field_item (Pattern.Held v) s o h f =
        let l : v < 8 = ltb-true v 8 s in
        ap item_in (from_variable ws a v 0 l) ∙ sym (held_value v l h)
    field_item (Pattern.FormalReading v) s o h f = never o
    field_item (Pattern.FormalAddress v) s o h f = never o

    -- ---- where a target points
    abbrev pub word_of : Target → ℕ
    word_of t = word_from ws a (target_from t) (target_written t)

    pub target_in_law :
        (t : Target) → target_sound n t ≡ true
        → target_of (address_of a) p t ≡ choose (ltb (word_of t) 256) (Some (address_of (word_of t))) None
    unfolding target_from target_written target_of target_sound
    target_in_law (Target.Written l) s =
        let below : l.0 < n = ltb-true l.0 n s in
        sym (choose_true _ _ _ (lt-ltb (word_from ws a 9 l.0) 256 (omega (arith, from_code ws a l.0))) ∙ ap (λ (w : ℕ). Some (address_of w)) (from_code ws a l.0))
    target_in_law Target.Own s =
        sym (choose_true _ _ _ (lt-ltb (word_from ws a 25 0) 256 (omega (arith, from_host ws a 0))) ∙ ap (λ (w : ℕ). Some (address_of w)) (from_host ws a 0))
    target_in_law (Target.Held v) s =
        let l : v < 8 = ltb-true v 8 s in
        rw (values v l, from_variable ws a v 0 l) (aim_in (get_or ws v 0))
