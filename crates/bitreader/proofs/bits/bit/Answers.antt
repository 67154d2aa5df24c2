use Prim.Native.Nat.{ℕ, ◌-◌, ◌/◌, ◌%◌, ◌^◌, ◌≤◌}
use mathlib.Core.Path.{refl, sym, ap, ◌∙◌}
use mathlib.Core.List.{List}
use lib.ListN.{length, get_or, get_or-eq_default}
use native.Mathlib.Nat.{zero-div}
use native.Mathlib.Omega.{arith}
use Rattle.bitreader.specs.BitReader.{bit_at}
use Rattle.bitreader.specs.Progress.{Bit}
use Rattle.bitreader.proofs.bits.bit.Goals as goal

inside : (s : List ℕ) (p : ℕ) → Bit s p (get_or s (p / 8) 0 / 2 ^ (7 - p % 8) % 2)
unfolding bit_at
inside s p = record { is = refl; small = omega arith }

-- past the end the byte is 0
past : (s : List ℕ) (p : ℕ) → length s ≤ p / 8 → Bit s p 0
unfolding bit_at
past s p l = record {
  is =
      ap (λ (b : ℕ). b % 2) (sym (zero-div (2 ^ (7 - p % 8)))) ∙
      ap (λ (b : ℕ). b / 2 ^ (7 - p % 8) % 2) (sym (get_or-eq_default s 0 l));
  small = omega arith;
}

pub returns-then-i-s : goal.returns-then-i-s
returns-then-i-s c = inside c.args.s.now c.args.p

pub returns-else-i-s : goal.returns-else-i-s
returns-else-i-s c = past c.args.s.now c.args.p c.if-i-s.false
