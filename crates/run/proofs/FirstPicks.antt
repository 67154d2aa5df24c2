-- Laws of the picks that count. Assumes nothing.
use Prim.Native.Nat.{ℕ, ◌<◌, ◌≤◌}
use mathlib.Core.Path.{◌≡◌, sym, ◌∙◌}
use mathlib.Core.List.{List}
use native.Mathlib.Omega.{arith}
use lib.ListN.{length, take}
use lib.Seq.{take_all, take-length, length-take-le}

pub first_all : (picks : List ℕ) → length picks < 65536 → take (length picks) picks ≡ take 65536 picks
first_all picks h = take-length picks ∙ sym (take_all 65536 picks (omega arith))

module _ (xs : List ℕ) (n : ℕ) where
  pub first_count : n ≤ length xs → n ≡ length (take n xs)
  first_count h = sym (length-take-le n xs h)

  pub first_few : n ≤ length xs → n ≤ 65536 → length (take n xs) ≤ 65536
  first_few h g = omega (arith, first_count h)
