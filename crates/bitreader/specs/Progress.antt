-- Describes the code, and is no part of what a reader has to believe: how the readers of `src/` keep to the definitions.
-- They look at the first bytes of an image alone (`LengthClaims.antt` of the crate `accepted` says that this changes
-- nothing).
pub use Rattle.bitreader.specs.declared.reader.BitReader.{BitReader}
use Rattle.std.specs.Prelude.{Result, ℕ, ◌<◌, ◌≤◌, ◌^◌, ◌≡◌, List}
use Rattle.bitreader.specs.Types.{Fault}
use Rattle.bitreader.specs.BitReader.{number_at, bit_at}
use Rattle.readers.specs.Reader.{Reader}
use Rattle.readers.specs.Progress.{came, Turning}

-- a bit, with its range
pub record Bit (s : List ℕ) (p r : ℕ) : Type 0 where
  pub is : r ≡ bit_at s p
  pub small : r ≤ 1

-- the number of w bits, with its range
pub record Number (s : List ℕ) (p w r : ℕ) : Type 0 where
  pub is : r ≡ number_at s p w
  pub small : r < 2 ^ w

-- from the reader r the reader m comes to what was answered and to the reader r'
pub record Reads {A : Type 0} (r : BitReader) (m : Reader A) (o : Result A Fault) (r' : BitReader) : Type 0 where
  pub gave : came o r'.at ≡ m r.image.now r.at
  pub same : r'.image ≡ r.image

-- turns of a loop from the reader r₀ and value a₀: of n turns, i are done and have come to the reader r and value a
pub record Turned {A : Type 0} (r₀ : BitReader) (n : ℕ) (f : ℕ → A → Reader A) (a₀ : A) (r : BitReader) (i : ℕ) (a : A) : Type 0 where
  pub turning : Turning r₀.image.now r₀.at n f a₀ r.at i a
  pub same : r.image ≡ r₀.image
