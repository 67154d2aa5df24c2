-- Readers of bits (document 01, "The image"): a place is that of the next bit.
use Rattle.std.specs.Prelude.{ℕ, zero, suc, ◌+◌, ◌-◌, ◌*◌, ◌/◌, ◌%◌, ◌^◌, List, get_or, length, leb, ltb}
use Rattle.net.specs.Choice.{choose, both}
use Rattle.readers.specs.Reader.{Parsed, got, fault, Reader, fault_at}

-- the bit at place p, the most significant bit of a byte first
unfoldable pub bit_at : List ℕ → ℕ → ℕ
bit_at s p = get_or s (p / 8) 0 / 2 ^ (7 - p % 8) % 2

-- the number that the w bits from place p write
unfoldable pub number_at : List ℕ → ℕ → ℕ → ℕ
number_at s p zero = 0
number_at s p (suc w) = number_at s p w * 2 + bit_at s (p + w)

-- the number v of the w bits from place p, from `low` up to below `end`, or the fault n there
unfoldable pub judged : ℕ → ℕ → ℕ → ℕ → ℕ → ℕ → Parsed ℕ
judged low end n p w v = choose (both (leb low v) (ltb v end)) (got v (p + w)) (fault (fault_at n p w))

-- a field of w bits: 28 where the bits end before its last bit
unfoldable pub field : ℕ → ℕ → ℕ → ℕ → Reader ℕ
field w low end n s p =
    choose (leb (p + w) (8 * length s)) (judged low end n p w (number_at s p w)) (fault (fault_at 28 p w))

-- a field of w bits that may hold any number
unfoldable pub bits : ℕ → Reader ℕ
bits w = field w 0 (2 ^ w) 28
