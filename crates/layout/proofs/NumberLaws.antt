-- A number in one more bit (`specs/ImageOf.antt` of `written`). Assumes nothing.
use Prim.Native.Nat.{ℕ, zero, suc, ◌-◌, ◌/◌, ◌%◌, ◌<◌}
use mathlib.Core.Path.{◌≡◌, refl, ap}
use mathlib.Core.List.{[], ◌∷◌, ◌++◌}
use native.Mathlib.Omega.{arith}
use lib.Dec.{eqb}
use lib.IntN.{ℤ, pos, negsuc}
use Rattle.text.specs.Signed.{complement_of}
use Rattle.written.specs.ImageOf.{bits_of, reading_bits}

pub bits_none : (width value : ℕ) → width ≡ 0 → bits_of width value ≡ []
unfolding bits_of
bits_none width value e = ap (λ (w : ℕ). bits_of w value) e

pub bits_more : (width value : ℕ) → 0 < width → bits_of (width - 1) (value / 2) ++ (eqb (value % 2) 1 ∷ []) ≡ bits_of width value
unfolding bits_of
bits_more zero value h = absurd (omega arith)
bits_more (suc w) value h =
    let e : suc w - 1 ≡ w = omega arith in
    ap (λ (j : ℕ). bits_of j (value / 2) ++ (eqb (value % 2) 1 ∷ [])) e

-- a reading is its two's complement
pub reading_is : (x : ℤ) → bits_of 32 (complement_of x) ≡ reading_bits x
unfolding reading_bits complement_of
reading_is (pos v) = refl
reading_is (negsuc v) = refl
