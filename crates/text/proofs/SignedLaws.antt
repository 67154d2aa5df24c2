-- Signed numbers of 32 bits. The code's x stands in goals by its bits, as `to_z w32 (of_z w32 x)`: a number from 0 on is
-- its own two's complement, and one below is known by the rest -1 - x. Assumes nothing.
use Prim.Native.Nat.{ℕ, zero, suc, ◌+◌, ◌-◌, ◌^◌, ◌<◌, ◌≤◌}
use mathlib.Core.Path.{◌≡◌, refl, sym, ap, subst, ◌∙◌}
use mathlib.Core.Bool.{true, false}
use mathlib.Core.List.{List}
use native.Mathlib.Nat.{not-suc-le-zero, zero-add}
use native.Mathlib.Omega.{arith}
use borrow.Author.Tests.{leb-false, lt-ltb, le-ltb}
use lib.Dec.{T}
use lib.IntN.{ℤ, pos, negsuc, ◌-ℤ◌, nat_abs}
use lib.Signed.{mag, le_z, non_neg}
use mir.Syntax.{w32}
use mir.Val.{Fits, SFits, to_z, of_z}
use mir.Facts.{to_z-of_z, Fits-nat_abs}
use Rattle.net.proofs.Laws.{choose_true, choose_false}
use Rattle.text.specs.Signed.{complement_of, signed}
use Rattle.text.specs.Writing.{Wrote}

-- ---- a signed number by its sign
upward : (y : ℤ) → le_z (pos 0) y ≡ true → SFits w32 y → T (non_neg y) × Fits w32 (nat_abs y)
upward (pos n) h s = (tt, Fits-nat_abs tt s)
upward (negsuc n) h s = let z : ◌≡◌ {A = ℕ} 0 1 = cc in omega arith

above : (y : ℤ) → le_z (pos 0) y ≡ false → negsuc 0 -ℤ y ≡ pos (mag y)
above (pos n) h = absurd (not-suc-le-zero (leb-false 0 n h))
above (negsuc n) h = rw (le-ltb (suc n) 1 (omega arith)) (ap pos (omega arith))

at_least : (y : ℤ) → le_z (pos 0) y ≡ true → nat_abs y ≡ complement_of y
unfolding complement_of
at_least (pos n) h = refl
at_least (negsuc n) h = absurd (let z : ◌≡◌ {A = ℕ} 0 1 = cc in omega arith)

less_than : (y : ℤ) → le_z (pos 0) y ≡ false → 4294967295 - mag y ≡ complement_of y
unfolding complement_of
less_than (pos n) h = absurd (not-suc-le-zero (leb-false 0 n h))
less_than (negsuc n) h = refl

mag_more : (y : ℤ) → le_z (pos 0) y ≡ false → mag y + 1 ≡ nat_abs y
mag_more (pos n) h = absurd (not-suc-le-zero (leb-false 0 n h))
mag_more (negsuc n) h = omega arith

-- ---- as the code has it
module _ (x : ℤ) (s : SFits w32 x) where
  pub cast_up : le_z (pos 0) (to_z w32 (of_z w32 x)) ≡ true → T (non_neg (to_z w32 (of_z w32 x))) × Fits w32 (nat_abs (to_z w32 (of_z w32 x)))
  cast_up h = upward (to_z w32 (of_z w32 x)) h (rw (to_z-of_z s) s)

  pub above_fits : le_z (pos 0) (to_z w32 (of_z w32 x)) ≡ false → SFits w32 (negsuc 0 -ℤ to_z w32 (of_z w32 x))
  above_fits h = rw (above (to_z w32 (of_z w32 x)) h, to_z-of_z s) (record { sfits = s.sfits })

  back : (h : le_z (pos 0) (to_z w32 (of_z w32 x)) ≡ false) → to_z w32 (of_z w32 (negsuc 0 -ℤ to_z w32 (of_z w32 x))) ≡ pos (mag x)
  back h = to_z-of_z (above_fits h) ∙ above (to_z w32 (of_z w32 x)) h ∙ ap (λ (y : ℤ). pos (mag y)) (to_z-of_z s)

  pub cast_above :
      le_z (pos 0) (to_z w32 (of_z w32 x)) ≡ false
      → T (non_neg (to_z w32 (of_z w32 (negsuc 0 -ℤ to_z w32 (of_z w32 x))))) × Fits w32 (nat_abs (to_z w32 (of_z w32 (negsuc 0 -ℤ to_z w32 (of_z w32 x)))))
  cast_above h = rw (back h) (tt, record { fits = omega (arith, s.sfits) })

  -- its two's complement
  pub above_within :
      le_z (pos 0) (to_z w32 (of_z w32 x)) ≡ false → nat_abs (to_z w32 (of_z w32 (negsuc 0 -ℤ to_z w32 (of_z w32 x)))) ≤ 4294967295
  above_within h = rw (back h) (omega (arith, s.sfits))

  pub complement_up : le_z (pos 0) (to_z w32 (of_z w32 x)) ≡ true → nat_abs (to_z w32 (of_z w32 x)) ≡ complement_of x
  complement_up h = at_least _ h ∙ ap complement_of (to_z-of_z s)

  pub complement_below :
      le_z (pos 0) (to_z w32 (of_z w32 x)) ≡ false
      → 4294967295 - nat_abs (to_z w32 (of_z w32 (negsuc 0 -ℤ to_z w32 (of_z w32 x)))) ≡ complement_of x
  complement_below h = rw (back h) (less_than x (rw (to_z-of_z s) at h))

  -- how far it is from nought
  pub above_more : le_z (pos 0) (to_z w32 (of_z w32 x)) ≡ false → Fits w32 (nat_abs (to_z w32 (of_z w32 (negsuc 0 -ℤ to_z w32 (of_z w32 x)))) + 1)
  above_more h = rw (back h) (record { fits = omega (arith, s.sfits) })

  pub magnitude_below : le_z (pos 0) (to_z w32 (of_z w32 x)) ≡ false → nat_abs (to_z w32 (of_z w32 (negsuc 0 -ℤ to_z w32 (of_z w32 x)))) + 1 ≡ nat_abs x
  magnitude_below h = rw (back h) (mag_more x (rw (to_z-of_z s) at h))

-- a signed number that an arm has taken out of a value, written
module _ {A B : Type 0} (f : B → List A) (make : ℤ → B) (xs : List A) (at : ℕ) (x : ℤ) (s : SFits w32 x) (ys : List A) (r : ℕ) where
  pub wrote_signed : (b : B) → b ≡ make x → Wrote xs at (f (make (to_z w32 (of_z w32 x)))) ys r → Wrote xs at (f b) ys r
  wrote_signed b e w =
      subst (λ (t : List A). Wrote xs at t ys r) (ap (λ (z : ℤ). f (make z)) (to_z-of_z s) ∙ ap f (sym e)) w

-- ---- a two's complement read back: one from 2147483648 on stands for -1 less its rest to 4294967295
pub low_is : (x : ℕ) → x < 2147483648 → to_z w32 x ≡ pos x
low_is x h = simp (lt-ltb x 2147483648 h)

minus : (x : ℕ) → negsuc 0 -ℤ pos x ≡ negsuc x
minus zero = refl
minus (suc x) = ap (λ (n : ℕ). negsuc (suc n)) (zero-add x)

pub high_is : (v : ℕ) → v < 2 ^ 32 → 2147483648 ≤ v → negsuc 0 -ℤ to_z w32 (4294967295 - v) ≡ negsuc (4294967295 - v)
high_is v l h = ap (λ (z : ℤ). negsuc 0 -ℤ z) (low_is (4294967295 - v) (omega arith)) ∙ minus (4294967295 - v)

pub high_fits : (v : ℕ) → v < 2 ^ 32 → 2147483648 ≤ v → SFits w32 (negsuc 0 -ℤ to_z w32 (4294967295 - v))
high_fits v l h = rw (high_is v l h) (record { sfits = omega arith })

pub signed_low : (v : ℕ) → v < 2147483648 → to_z w32 v ≡ signed v
unfolding signed
signed_low v h = low_is v h ∙ sym (choose_true _ _ _ (lt-ltb v 2147483648 h))

pub signed_high : (v : ℕ) → v < 2 ^ 32 → 2147483648 ≤ v → to_z w32 (of_z w32 (negsuc 0 -ℤ to_z w32 (4294967295 - v))) ≡ signed v
unfolding signed
signed_high v l h = to_z-of_z (high_fits v l h) ∙ high_is v l h ∙ sym (choose_false _ _ _ (le-ltb v 2147483648 h))
