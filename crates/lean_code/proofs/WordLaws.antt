-- What words stand for (`Items.antt` of `lean_words`), compared: words in range are equal where their items are, and the sort of an item is
-- told by 256. Assumes nothing.
use Prim.Native.Nat.{ℕ, ◌+◌, ◌-◌, ◌*◌, ◌/◌, ◌%◌, ◌<◌, ◌≤◌}
use mathlib.Core.Path.{◌≡◌, refl, sym, ap, ◌∙◌}
use mathlib.Core.Logic.{◌≢◌}
use mathlib.Core.Bool.{Bool, true, false, not}
use native.Mathlib.Omega.{arith}
use native.Mathlib.Decide.{dec_le}
use lib.Dec.{eqb, leb, ltb}
use lib.IntN.{ℤ}
use borrow.Author.Tests.{lt-ltb, le-ltb, le-leb, lt-leb, eq-eqb, ne_eqb, eqb-true, eqb-false}
use Rattle.std.specs.Prelude.{Some, None}
use Rattle.net.specs.Choice.{choose, both, in_range}
use Rattle.net.specs.Readings.{same_reading}
use Rattle.net.specs.Records.{address_of}
use Rattle.net.specs.declared.tuple.Item.{Item}
use Rattle.net.specs.declared.tuple.Value.{Value}
use Rattle.net.proofs.Laws.{choose_true, choose_false, in_range_law, in_range_low, in_range_high}
use Rattle.matching.specs.Matching.{is_set, held_item, same_item, is_reading, is_address, value_of}
use Rattle.plans.specs.Request.{aim_of}
use Rattle.lean_words.specs.Items.{reading_word, reading_in, address_in, item_word, item_in, value_in}
use Rattle.lean_words.proofs.BackLaws.{word_above}
use Rattle.lean_code.specs.Ranged.{RangedItem}

-- ---- two numbers compared after the same is done to both
eqb_as : (m n k l : ℕ) → (m ≡ n → k ≡ l) → (k ≡ l → m ≡ n) → eqb m n ≡ eqb k l
eqb_as m n k l f g = go (eqb m n) refl
  where
    go : (b : Bool) → eqb m n ≡ b → b ≡ eqb k l
    go true e = sym (eq-eqb k l (f (eqb-true m n e)))
    go false e = sym (ne_eqb k l (λ z. eqb-false m n e (g z)))

-- ---- readings
reading_words : (x y : ℤ) → same_reading x y ≡ eqb (reading_word x) (reading_word y)
unfolding same_reading reading_word
reading_words (ℤ.pos m) (ℤ.pos n) = eqb_as m n (2 * m + 257) (2 * n + 257) (λ e. omega arith) (λ e. omega arith)
reading_words (ℤ.pos m) (ℤ.negsuc n) = sym (ne_eqb (2 * m + 257) (2 * n + 258) (λ e. omega arith))
reading_words (ℤ.negsuc m) (ℤ.pos n) = sym (ne_eqb (2 * m + 258) (2 * n + 257) (λ e. omega arith))
reading_words (ℤ.negsuc m) (ℤ.negsuc n) = eqb_as m n (2 * m + 258) (2 * n + 258) (λ e. omega arith) (λ e. omega arith)

-- the word of the reading of a word
even_or_odd : (w m : ℕ) (b : Bool) → 257 ≤ w → m ≡ (w - 257) / 2 → eqb ((w - 257) % 2) 0 ≡ b → reading_word (choose b (ℤ.pos m) (ℤ.negsuc m)) ≡ w
unfolding reading_word choose
even_or_odd w m true h e p = omega (arith, eqb-true ((w - 257) % 2) 0 p)
even_or_odd w m false h e p = omega (arith, eqb-false ((w - 257) % 2) 0 p)

word_of_reading : (w : ℕ) → 257 ≤ w → w < 4294967553 → reading_word (reading_in w) ≡ w
unfolding reading_in
word_of_reading w h l = even_or_odd w _ _ h (omega arith) refl

-- ---- items
module _ (w : ℕ) where
  pub item_address : w < 256 → item_in w ≡ Item.Address (address_of w)
  unfolding item_in address_in
  item_address h =
      let e : w % 256 ≡ w = omega arith in
      choose_true _ _ _ (le-leb w 256 (omega arith)) ∙ ap (λ (n : ℕ). Item.Address (address_of n)) e

  pub item_reading : 257 ≤ w → item_in w ≡ Item.Reading (reading_in w)
  unfolding item_in
  item_reading h = choose_false _ _ _ (lt-leb w 256 h)

  pub word_of_item : RangedItem w → item_word (item_in w) ≡ w
  unfolding item_word
  word_of_item r = go (dec_le 257 w)
    where
      go : Dec (257 ≤ w) → item_word (item_in w) ≡ w
      go (yes h) = rw (item_reading h) (word_of_reading w h r.below)
      go (no h) = rw (item_address (below h))
        where
          below : (257 ≤ w → ⊥) → w < 256
          below h = omega (arith, r.there)

  -- the sort of an item
  pub reading_above : is_reading (item_in w) ≡ leb 257 w
  unfolding is_reading item_in
  reading_above = go (dec_le 257 w)
    where
      go : Dec (257 ≤ w) → is_reading (choose (leb w 256) (Item.Address (address_in w)) (Item.Reading (reading_in w))) ≡ leb 257 w
      go (yes h) = rw (choose_false _ _ _ (lt-leb w 256 h)) (sym (le-leb 257 w h))
      go (no h) = rw (choose_true _ _ _ (le-leb w 256 (omega arith))) (sym (lt-leb 257 w (omega arith)))

  pub address_below : is_address (item_in w) ≡ leb w 256
  unfolding is_address item_in
  address_below = go (dec_le 257 w)
    where
      go : Dec (257 ≤ w) → is_address (choose (leb w 256) (Item.Address (address_in w)) (Item.Reading (reading_in w))) ≡ leb w 256
      go (yes h) = rw (choose_false _ _ _ (lt-leb w 256 h)) (sym (lt-leb w 256 h))
      go (no h) = rw (choose_true _ _ _ (le-leb w 256 (omega arith))) (sym (le-leb w 256 (omega arith)))

-- an item whose address, if it is one, is below 256
unfoldable pub Addressed : Item → Type 0
Addressed (Item.Reading x) = Unit {0}
Addressed (Item.Address l) = l.0 < 256

pub item_words : (x y : Item) → Addressed x → Addressed y → same_item x y ≡ eqb (item_word x) (item_word y)
unfolding same_item item_word Addressed
item_words (Item.Reading x) (Item.Reading y) h g = reading_words x y
item_words (Item.Reading x) (Item.Address m) h g = sym (ne_eqb (reading_word x) m.0 (λ e. omega (arith, word_above x)))
item_words (Item.Address l) (Item.Reading y) h g = sym (ne_eqb l.0 (reading_word y) (λ e. omega (arith, word_above y)))
item_words (Item.Address l) (Item.Address m) h g = refl

pub item_addressed : (w : ℕ) → Addressed (item_in w)
unfolding item_in address_in Addressed choose
item_addressed w = go (leb w 256)
  where
    go : (b : Bool) → Addressed (choose b (Item.Address (address_of (w % 256))) (Item.Reading (reading_in w)))
    go true = omega arith
    go false = tt

-- a word in range, compared with an item
pub item_same : (w : ℕ) (y : Item) → RangedItem w → Addressed y → same_item (item_in w) y ≡ eqb w (item_word y)
item_same w y r h = item_words _ y (item_addressed w) h ∙ ap (λ (n : ℕ). eqb n (item_word y)) (word_of_item w r)

-- the word of nought
pub zero_word : (w : ℕ) → RangedItem w → item_in w ≡ Item.Reading (ℤ.pos 0) → w ≡ 257
unfolding item_word reading_word
zero_word w r e = sym (word_of_item w r) ∙ ap item_word e

-- one value: a range from a word to itself
pub in_one : (w x : ℕ) → in_range w x w ≡ eqb x w
unfolding in_range both
in_one w x = go (eqb x w) refl
  where
    go : (b : Bool) → eqb x w ≡ b → in_range w x w ≡ b
    go true e = in_range_law w x w (omega (arith, eqb-true x w e)) (omega (arith, eqb-true x w e))
    go false e = apart (in_range w x w) refl
      where
        apart : (c : Bool) → in_range w x w ≡ c → c ≡ false
        apart true h = absurd (eqb-false x w e (omega (arith, in_range_low w x w h, in_range_high w x w h)))
        apart false h = refl

-- ---- values
module _ (w : ℕ) where
  pub value_address : w < 256 → value_in w ≡ Value.Address (address_of w)
  unfolding value_in address_in
  value_address h =
      let e : w % 256 ≡ w = omega arith in
      choose_true _ _ _ (lt-ltb w 256 h) ∙ ap (λ (n : ℕ). Value.Address (address_of n)) e

  value_unset : w ≡ 256 → value_in w ≡ Value.Unset
  unfolding value_in
  value_unset e = choose_false _ _ _ (le-ltb w 256 (omega arith)) ∙ choose_true _ _ _ (eq-eqb w 256 e)

  value_reading : 257 ≤ w → value_in w ≡ Value.Reading (reading_in w)
  unfolding value_in
  value_reading h = choose_false _ _ _ (le-ltb w 256 (omega arith)) ∙ choose_false _ _ _ (ne_eqb w 256 (λ e. omega (arith, e)))

  -- a fact of every value, by its word
  module _ (P : Value → Type 0) where
    by_word : (w < 256 → P (Value.Address (address_of w))) → (w ≡ 256 → P Value.Unset) → (257 ≤ w → P (Value.Reading (reading_in w))) → P (value_in w)
    by_word f g h = go (dec_le 257 w) (dec_le 256 w)
      where
        go : Dec (257 ≤ w) → Dec (256 ≤ w) → P (value_in w)
        go (yes l) _ = rw (value_reading l) (h l)
        go (no l) (yes m) = let e : w ≡ 256 = omega arith in rw (value_unset e) (g e)
        go (no l) (no m) = let e : w < 256 = omega arith in rw (value_address e) (f e)

  pub value_set : is_set (value_in w) ≡ not (eqb w 256)
  unfolding is_set
  value_set =
      by_word (λ x. is_set x ≡ not (eqb w 256))
      (λ h. ap not (sym (ne_eqb w 256 (λ e. omega (arith, e)))))
      (λ h. ap not (sym (eq-eqb w 256 h)))
      (λ h. ap not (sym (ne_eqb w 256 (λ e. omega (arith, e)))))

  pub held_item_law : w ≢ 256 → held_item (value_in w) ≡ item_in w
  unfolding held_item
  held_item_law n =
      by_word (λ x. held_item x ≡ item_in w) (λ h. sym (item_address w h)) (λ h. absurd (n h)) (λ h. sym (item_reading w h))

  pub item_value : w ≢ 256 → value_of (item_in w) ≡ value_in w
  unfolding value_of
  item_value n =
      by_word (λ x. value_of (item_in w) ≡ x) (λ h. ap value_of (item_address w h)) (λ h. absurd (n h))
      (λ h. ap value_of (item_reading w h))

  -- the address that a value is
  pub aim_in : aim_of (value_in w) ≡ choose (ltb w 256) (Some (address_of w)) None
  unfolding aim_of
  aim_in =
      by_word (λ x. aim_of x ≡ choose (ltb w 256) (Some (address_of w)) None)
      (λ h. sym (choose_true _ _ _ (lt-ltb w 256 h)))
      (λ h. sym (choose_false _ _ _ (le-ltb w 256 (omega arith))))
      (λ h. sym (choose_false _ _ _ (le-ltb w 256 (omega arith))))
