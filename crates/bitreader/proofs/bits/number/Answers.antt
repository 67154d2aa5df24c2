use Prim.Native.Nat.{ℕ, suc, ◌+◌, ◌*◌, ◌≤◌}
use mathlib.Core.Path.{◌≡◌, refl}
use mathlib.Core.List.{List}
use lib.Pow.{pow_mono}
use native.Mathlib.Nat.{le_trans}
use native.Mathlib.Numerals.{add-one}
use native.Mathlib.Omega.{arith}
use mir.Syntax.{w64}
use mir.Val.{Fits}
use borrow.Author.Rules.{rules}
use Rattle.bitreader.specs.BitReader.{number_at}
use Rattle.bitreader.specs.Progress.{Bit, Number}
use Rattle.bitreader.proofs.bits.number.Goals as goal

number_none : (s : List ℕ) (p : ℕ) → Number s p 0 0
unfolding number_at
number_none s p = record { is = refl; small = omega arith }

more : (s : List ℕ) (p i v b : ℕ) → Number s p i v → Bit s (p + i) b → Number s p (suc i) (v * 2 + b)
unfolding number_at
more s p i v b h g = record { is = cc (h.is, g.is); small = omega (arith, h.small, g.small) }

number_more : (s : List ℕ) (p i v b : ℕ) → Number s p i v → Bit s (p + i) b → Number s p (i + 1) (v * 2 + b)
number_more s p i v b h g = rw add-one (more s p i v b h g)

number_all : (s : List ℕ) (p i w v : ℕ) → Number s p i v → i ≤ w → w ≤ i → Number s p w v
number_all s p i w v h l g = let e : i ≡ w = omega arith in rw e at h

-- a number of fewer than 32 bits fits, doubled and increased by a bit
number_twice : (s : List ℕ) (p i w v : ℕ) → Number s p i v → i ≤ w → w ≤ 32 → Fits w64 (v * 2)
number_twice s p i w v h l k = omega (arith, h.small, pow_mono (le_trans l k))

number_next : (s : List ℕ) (p q i w v b : ℕ) → Number s p i v → Bit s q b → i ≤ w → w ≤ 32 → Fits w64 (v * 2 + b)
number_next s p q i w v b h g l k = omega (arith, h.small, g.small, pow_mono (le_trans l k))

pub loop-i-init : goal.loop-i-init
loop-i-init c = search (rules, number_none)

pub overflow_mul-v : goal.overflow_mul-v
overflow_mul-v c = search (rules, number_twice)

pub overflow_add-v : goal.overflow_add-v
overflow_add-v c = search (rules, number_next)

pub loop-i-preserved : goal.loop-i-preserved
loop-i-preserved c = search (rules, number_more)

pub returns : goal.returns
returns c = search (rules, number_all)
