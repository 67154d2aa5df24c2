-- Fields that stand in several places of an image (document 01, "The image"): n is the address count and k the code
-- length.
use Rattle.std.specs.Prelude.{ℕ, ℤ}
use Rattle.net.specs.Records.{address_of, place_of}
use Rattle.bitreader.specs.Types.{Locality, Place}
use Rattle.text.specs.Signed.{signed}
use Rattle.readers.specs.Reader.{Reader, pure, ◌>>=◌}
use Rattle.bitreader.specs.BitReader.{field, bits}

-- an address of 4 bits, below the address count
unfoldable pub address : ℕ → Reader Locality
address n = do
  l ← field 4 0 n 23
  pure (address_of l)

-- a code place of 9 bits, below the code length
unfoldable pub place : ℕ → Reader Place
place k = do
  p ← field 9 0 k 24
  pure (place_of p)

-- a variable of 3 bits
unfoldable pub variable : Reader ℕ
variable = bits 3

-- a reading: 32 bits of two's complement
unfoldable pub reading : Reader ℤ
reading = do
  v ← bits 32
  pure (signed v)
