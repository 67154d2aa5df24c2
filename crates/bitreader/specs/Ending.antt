-- The end of an image (document 01, "The image", part 6): zero bits to the end of the byte, and no further byte.
use Rattle.std.specs.Prelude.{ℕ, ◌+◌, ◌-◌, ◌/◌, ◌%◌, Bool, List, length, eqb}
use Rattle.net.specs.Choice.{both}
use Rattle.readers.specs.Reader.{Reader, require}
use Rattle.bitreader.specs.BitReader.{number_at}

-- how many bits are left of the byte of the bit before place p
unfoldable pub padding : ℕ → ℕ
padding p = (8 - p % 8) % 8

-- whether the image ends with that byte, in zero bits
unfoldable pub ends_at : List ℕ → ℕ → Bool
ends_at s p = both (eqb (length s) ((p + 7) / 8)) (eqb (number_at s p (padding p)) 0)

-- 29 at the first bit after the code, unless the image ends
unfoldable pub ending : Reader (Unit {0})
ending s p = require (ends_at s p) 29 s p
