-- Describes the code, and is no part of what a reader has to believe: words in the ranges in which they stand for one value each. The
-- readings of 32 bits have the words from 257 to 4294967552 (257 and 2 to the 32 above it), so that two words in range are equal where what
-- they stand for is; 256 is no item. The origin, of a busy slot and of a free one, is an address: its word is no unset variable's.
use Rattle.std.specs.Prelude.{ℕ, ◌<◌, ◌≡◌, ◌≢◌, List, ℤ, length, get_or}
use Rattle.net.specs.Records.{pattern_at}
use Rattle.net.specs.declared.instruction.Pattern.{Pattern}
use Rattle.net.specs.declared.instruction.Instruction.{Instruction}
use Rattle.lean_words.specs.Items.{reading_word}

pub record RangedItem (w : ℕ) : Type 0 where
  pub below : w < 4294967553
  pub there : w ≢ 256

-- the 16 words of a slot
pub record RangedSlot (ws : List ℕ) : Type 0 where
  pub size : length ws ≡ 16
  pub variables : (v : ℕ) → v < 8 → get_or ws v 0 < 4294967553
  pub origin : get_or ws 9 0 < 256

-- the 6 words of a tuple
pub record RangedTuple (ws : List ℕ) : Type 0 where
  pub size : length ws ≡ 6
  pub fields : (i : ℕ) → i < 4 → RangedItem (get_or ws i 0)

-- the readings that a template has written
pub record RangedTemplate (c : Instruction) : Type 0 where
  pub readings : (i : ℕ) (x : ℤ) → i < 4 → pattern_at c i ≡ Pattern.Reading x → reading_word x < 4294967553
