-- Items and values as words (`specs/Items.antt`), as the code has them: a reading stands in goals by its bits.
-- Assumes nothing.
use Prim.Native.Nat.{ℕ, ◌+◌, ◌-◌, ◌*◌, ◌/◌, ◌%◌, ◌<◌, ◌≤◌}
use mathlib.Core.Path.{◌≡◌, refl, ap, ◌∙◌}
use mathlib.Core.Bool.{true, false}
use native.Mathlib.Nat.{not-suc-le-zero}
use native.Mathlib.Omega.{arith}
use borrow.Author.Tests.{leb-false, lt-ltb, le-ltb, le-leb, lt-leb, eq-eqb, ne_eqb}
use lib.Dec.{T}
use lib.IntN.{ℤ, pos, negsuc, ◌-ℤ◌, nat_abs}
use lib.Signed.{le_z, non_neg}
use mir.Syntax.{w32, w64}
use mir.Val.{Fits, SFits, to_z, of_z}
use mir.Facts.{to_z-of_z, Fits-32_64}
use Rattle.net.proofs.Laws.{if_true, if_false}
use Rattle.text.proofs.SignedLaws.{cast_up, cast_above, magnitude_below, low_is, high_is, high_fits}
use Rattle.lean_words.specs.Items.{reading_word, reading_in, address_in, item_word, item_in, value_word, value_in}
use Rattle.lean_words.specs.Types.{Locality, Item, Value}

-- ---- the word of a reading
doubled : (n k : ℕ) → Fits w32 n → k ≤ 258 → Fits w64 (2 * n + k)
doubled n k h l = record { fits = omega (arith, h.fits) }

doubled_only : (n : ℕ) → Fits w32 n → Fits w64 (2 * n)
doubled_only n h = record { fits = omega (arith, h.fits) }

from_nought : (y : ℤ) → le_z (pos 0) y ≡ true → 2 * nat_abs y + 257 ≡ reading_word y
unfolding reading_word
from_nought (pos n) h = refl
from_nought (negsuc n) h = absurd (let z : ◌≡◌ {A = ℕ} 0 1 = cc in omega arith)

below_nought : (y : ℤ) (n : ℕ) → le_z (pos 0) y ≡ false → n + 1 ≡ nat_abs y → 2 * n + 258 ≡ reading_word y
unfolding reading_word
below_nought (pos m) n h e = absurd (not-suc-le-zero (leb-false 0 m h))
below_nought (negsuc m) n h e = omega arith

module _ (x : ℤ) (s : SFits w32 x) (h : le_z (pos 0) (to_z w32 (of_z w32 x)) ≡ true) where
  pub up_cast : T (non_neg (to_z w32 (of_z w32 x))) × Fits w64 (nat_abs (to_z w32 (of_z w32 x)))
  up_cast = ((cast_up x s h).0, Fits-32_64 (cast_up x s h).1)

  pub up_doubled : Fits w64 (2 * nat_abs (to_z w32 (of_z w32 x)))
  up_doubled = doubled_only _ (cast_up x s h).1

  pub up_fits : Fits w64 (2 * nat_abs (to_z w32 (of_z w32 x)) + 257)
  up_fits = doubled _ 257 (cast_up x s h).1 (omega arith)

  pub up_is : 2 * nat_abs (to_z w32 (of_z w32 x)) + 257 ≡ reading_word x
  up_is = from_nought _ h ∙ ap reading_word (to_z-of_z s)

module _ (x : ℤ) (s : SFits w32 x) (h : le_z (pos 0) (to_z w32 (of_z w32 x)) ≡ false) where
  abbrev rest : ℕ
  rest = nat_abs (to_z w32 (of_z w32 (negsuc 0 -ℤ to_z w32 (of_z w32 x))))

  pub down_cast : T (non_neg (to_z w32 (of_z w32 (negsuc 0 -ℤ to_z w32 (of_z w32 x))))) × Fits w64 rest
  down_cast = ((cast_above x s h).0, Fits-32_64 (cast_above x s h).1)

  pub down_doubled : Fits w64 (2 * rest)
  down_doubled = doubled_only _ (cast_above x s h).1

  pub down_fits : Fits w64 (2 * rest + 258)
  down_fits = doubled _ 258 (cast_above x s h).1 (omega arith)

  pub down_is : 2 * rest + 258 ≡ reading_word x
  down_is = below_nought x _ (rw (to_z-of_z s) at h) (magnitude_below x s h)

-- ---- the reading of a word: below 0 it is -1 less its half
module _ (v : ℕ) where
  less : 4294967295 - (4294967295 - v / 2 % 2147483648) ≡ v / 2 % 2147483648
  less = omega arith

  pub odd_fits : SFits w32 (negsuc 0 -ℤ to_z w32 (v / 2 % 2147483648))
  odd_fits = rw less at (high_fits (4294967295 - v / 2 % 2147483648) (omega arith) (omega arith))

  odd_is : negsuc 0 -ℤ to_z w32 (v / 2 % 2147483648) ≡ negsuc (v / 2 % 2147483648)
  odd_is = rw less at (high_is (4294967295 - v / 2 % 2147483648) (omega arith) (omega arith))

  pub even_reading : (w : ℕ) → v ≡ w - 257 → v % 2 ≡ 0 → to_z w32 (v / 2 % 2147483648) ≡ reading_in w
  unfolding reading_in
  even_reading w e h = rw (← e) (if_true _ _ _ _ (eq-eqb _ 0 h) (low_is (v / 2 % 2147483648) (omega arith)))

  pub odd_reading :
      (w : ℕ) → v ≡ w - 257 → (v % 2 ≡ 0 → ⊥) → to_z w32 (of_z w32 (negsuc 0 -ℤ to_z w32 (v / 2 % 2147483648))) ≡ reading_in w
  unfolding reading_in
  odd_reading w e h = rw (← e) (if_false _ _ _ _ (ne_eqb _ 0 h) (to_z-of_z odd_fits ∙ odd_is))

-- ---- items and values: a reading that an arm has taken out
module _ (z : ℤ) (s : SFits w32 z) (r : ℕ) (q : r ≡ reading_word (to_z w32 (of_z w32 z))) where
  pub item_reading : (x : Item) → x ≡ Item.Reading z → r ≡ item_word x
  unfolding item_word
  item_reading x e = rw e (q ∙ ap reading_word (to_z-of_z s))

  pub value_reading : (x : Value) → x ≡ Value.Reading z → r ≡ value_word x
  unfolding value_word
  value_reading x e = rw e (q ∙ ap reading_word (to_z-of_z s))

-- and one that is put in
module _ (w : ℕ) (z : ℤ) (s : SFits w32 z) (e : z ≡ reading_in w) where
  pub reading_item_law : 256 < w → Item.Reading (to_z w32 (of_z w32 z)) ≡ item_in w
  unfolding item_in
  reading_item_law h = if_false _ _ _ _ (lt-leb w 256 h) (ap Item.Reading (to_z-of_z s ∙ e))

  pub reading_value : 256 ≤ w → (w ≡ 256 → ⊥) → Value.Reading (to_z w32 (of_z w32 z)) ≡ value_in w
  unfolding value_in
  reading_value h n =
      if_false _ _ _ _ (le-ltb w 256 h) (if_false _ _ _ _ (ne_eqb w 256 n) (ap Value.Reading (to_z-of_z s ∙ e)))

module _ (w : ℕ) (l : Locality) (e : l ≡ address_in w) where
  pub address_item_law : w ≤ 256 → Item.Address l ≡ item_in w
  unfolding item_in
  address_item_law h = if_true _ _ _ _ (le-leb w 256 h) (ap Item.Address e)

  pub address_value : w < 256 → Value.Address l ≡ value_in w
  unfolding value_in
  address_value h = if_true _ _ _ _ (lt-ltb w 256 h) (ap Value.Address e)

pub unset_value : (w : ℕ) → 256 ≤ w → w ≡ 256 → Value.Unset ≡ value_in w
unfolding value_in
unset_value w h e = if_false _ _ _ _ (le-ltb w 256 h) (if_true _ _ _ _ (eq-eqb w 256 e) refl)
