-- Describes the code, and is no part of what a reader has to believe: the readers of `src/` look at the first bytes of an
-- image alone (`LengthClaims.antt` of the crate `accepted` says that this changes nothing).
use Rattle.std.specs.Prelude.{ℕ, List, take}

-- how many bytes of an image the code looks at, at most
abbrev pub window : ℕ
window = 32768

-- the bytes that the code looks at
unfoldable pub seen : List ℕ → List ℕ
seen image = take window image
