-- Readings compared (`same_reading` of `specs/Matching.antt`): two signed numbers of 32 bits are the same exactly when
-- their bits are. Assumes nothing.
use Prim.Native.Nat.{ℕ, suc, ◌-◌, ◌^◌, ◌<◌}
use mathlib.Core.Path.{◌≡◌, refl, ap, ◌∙◌}
use mathlib.Core.Bool.{Bool, true, false}
use native.Mathlib.Omega.{arith}
use lib.Dec.{eqb}
use lib.IntN.{ℤ, pos, negsuc}
use mir.Syntax.{w32}
use mir.Val.{SFits, to_z, of_z}
use mir.Facts.{to_z-of_z}
use borrow.Author.Tests.{eqb-true, eqb-false, eq-eqb, ne_eqb}
use Rattle.net.specs.Readings.{same_reading}

-- the bits of two negative numbers
below : (m n : ℕ) (b : Bool) → m < 2 ^ 31 → n < 2 ^ 31 → eqb m n ≡ b → eqb (2 ^ 32 - suc m) (2 ^ 32 - suc n) ≡ b
below m n true p q e = eq-eqb (2 ^ 32 - suc m) (2 ^ 32 - suc n) (omega (arith, eqb-true m n e))
below m n false p q e = ne_eqb (2 ^ 32 - suc m) (2 ^ 32 - suc n) (λ z. eqb-false m n e (omega arith))

pub same_bits : (x y : ℤ) → SFits w32 x → SFits w32 y → eqb (of_z w32 x) (of_z w32 y) ≡ same_reading x y
unfolding same_reading
same_bits (pos m) (pos n) p q = refl
same_bits (pos m) (negsuc n) p q = ne_eqb m (2 ^ 32 - suc n) (λ e. omega (arith, p.sfits, q.sfits))
same_bits (negsuc m) (pos n) p q = ne_eqb (2 ^ 32 - suc m) n (λ e. omega (arith, p.sfits, q.sfits))
same_bits (negsuc m) (negsuc n) p q = below m n _ p.sfits q.sfits refl

-- a reading that was stored as bits and read back
pub read_back_law : (x y : ℤ) (r : Bool) → SFits w32 x → r ≡ same_reading (to_z w32 (of_z w32 x)) y → r ≡ same_reading x y
read_back_law x y r p e = e ∙ ap (λ (z : ℤ). same_reading z y) (to_z-of_z p)

pub never : {C : Type 0} → false ≡ true → C
never e = let z : ◌≡◌ {A = ℕ} 0 1 = cc in absurd (omega arith)

-- the test is equality
pub same_reading_law : (x : ℤ) → same_reading x x ≡ true
unfolding same_reading
same_reading_law (ℤ.pos m) = eq-eqb m m refl
same_reading_law (ℤ.negsuc m) = eq-eqb m m refl

pub reading_equal : (x y : ℤ) → same_reading x y ≡ true → x ≡ y
unfolding same_reading
reading_equal (ℤ.pos m) (ℤ.pos n) h = ap ℤ.pos (eqb-true m n h)
reading_equal (ℤ.pos m) (ℤ.negsuc n) h = never h
reading_equal (ℤ.negsuc m) (ℤ.pos n) h = never h
reading_equal (ℤ.negsuc m) (ℤ.negsuc n) h = ap ℤ.negsuc (eqb-true m n h)
