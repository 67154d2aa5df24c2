-- Laws by which fractions are compared in the code. Assumes nothing.
use Prim.Native.Nat.{ℕ, ◌*◌, ◌≤◌}
use mathlib.Core.Path.{◌≡◌, sym, ap, ◌∙◌}
use native.Mathlib.Omega.{arith}
use native.Mathlib.Nat.{mul-le-mul}
use mir.Syntax.{w32, w64}
use mir.Val.{Fits}
use Rattle.std.specs.Prelude.{Some, None}
use Rattle.season.specs.Fractions.{Fraction, Best, against}

-- a product of numbers of 32 bits fits 64
pub product_fits : (a b : ℕ) → Fits w32 a → Fits w32 b → Fits w64 (a * b)
product_fits a b h g =
    let first : a ≤ 4294967295 = omega arith in
    let second : b ≤ 4294967295 = omega arith in
    let most : a * b ≤ 4294967295 * 4294967295 = mul-le-mul first second in
    record { fits = omega (arith, most) }

-- what a match on the best so far finds
module _ (i : ℕ) (x : Fraction) (best r : Best) where
  pub against_nobody : best ≡ None → Some (i, x) ≡ against i x best
  unfolding against
  against_nobody e = sym (ap (against i x) e)

  pub against_leader : (j : ℕ) (y : Fraction) → best ≡ Some (j, y) → r ≡ against i x (Some (j, y)) → r ≡ against i x best
  against_leader j y e d = d ∙ sym (ap (against i x) e)
