-- Two images that have their first bits in common (document 02, slip 2).
use Rattle.std.specs.Prelude.{ℕ, ◌*◌, ◌<◌, ◌≤◌, ◌≡◌, List, length}
use Rattle.bitreader.specs.BitReader.{bit_at}

-- both have e bits, and these are the same
pub record SameBits (e : ℕ) (s t : List ℕ) : Type 0 where
  pub first : e ≤ 8 * length s
  pub second : e ≤ 8 * length t
  pub same : (i : ℕ) → i < e → bit_at s i ≡ bit_at t i
