-- How long a number is in plain decimal (`Decimal.antt` of `text`). Assumes nothing.
use Prim.Native.Nat.{ℕ, ◌+◌, ◌<◌, ◌≤◌}
use mathlib.Core.Path.{◌≡◌}
use mathlib.Core.Bool.{true}
use native.Mathlib.Omega.{arith}
use lib.ListN.{length}
use lib.IntN.{ℤ}
use borrow.Author.Tests.{ltb-true}
use Rattle.text.specs.Decimal.{decimal, signed_decimal}
use Rattle.text.proofs.DecimalLaws.{decimal_below}
use Rattle.fresh.specs.Fresh.{reading_fits}

pub one_digit : (n : ℕ) → n < 10 → length (decimal n) ≤ 1
one_digit n h = decimal_below 0 n h

pub two_digits : (n : ℕ) → n < 100 → length (decimal n) ≤ 2
two_digits n h = decimal_below 1 n h

pub three_digits : (n : ℕ) → n < 1000 → length (decimal n) ≤ 3
three_digits n h = decimal_below 2 n h

-- a reading of 32 bits
pub reading_short : (x : ℤ) → reading_fits x ≡ true → length (signed_decimal x) ≤ 11
unfolding reading_fits signed_decimal
reading_short (ℤ.pos v) e =
    let h = ltb-true v 2147483648 e in
    omega (arith, decimal_below 9 v (omega arith))
reading_short (ℤ.negsuc v) e =
    let h = ltb-true v 2147483648 e in
    omega (arith, decimal_below 9 (v + 1) (omega arith))
