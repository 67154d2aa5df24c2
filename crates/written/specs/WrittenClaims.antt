-- What an image is, said by writing (document 01, "The image"; demand 2): an image is accepted with a net exactly when
-- the net is fresh (`Fresh.antt`) and the image is what the layout writes down for it (`ImageOf.antt`).
use Rattle.std.specs.Prelude.{ℕ, ◌<◌, ◌≡◌, true, List, length, get_or}
use Rattle.written.specs.Types.{Net}
use Rattle.image.specs.Image.{opened_of, accepted}
use Rattle.written.specs.Types.{Verdict}
use Rattle.written.specs.ImageOf.{image_of}
use Rattle.fresh.specs.Fresh.{fresh_of}
use Rattle.accepted.specs.LengthClaims.{longest_in}

-- a list of bytes, as a slice of a running program is
pub record Bytes (s : List ℕ) : Type 0 where
  pub small : (i : ℕ) → i < length s → get_or s i 0 < 256

-- an image is accepted with a net exactly when the net is fresh and the image is the one written down for it
unfoldable pub AcceptedIsWritten : Type 0
AcceptedIsWritten =
    (s : List ℕ) (net : Net) → Bytes s
    → (opened_of s ≡ accepted net → (fresh_of net ≡ true) × (s ≡ image_of net))
    × ((fresh_of net ≡ true) × (s ≡ image_of net) → opened_of s ≡ accepted net)

-- what is written down is a list of bytes
unfoldable pub WrittenIsBytes : Type 0
WrittenIsBytes = (net : Net) → Bytes (image_of net)

-- no two images give one net
unfoldable pub OneImage : Type 0
OneImage =
    (s t : List ℕ) (net : Net) → Bytes s → Bytes t → opened_of s ≡ accepted net → opened_of t ≡ accepted net → s ≡ t

-- no two nets have one image
unfoldable pub OneNet : Type 0
OneNet = (x y : Net) → fresh_of x ≡ true → fresh_of y ≡ true → image_of x ≡ image_of y → x ≡ y

-- "The longest accepted image has 14,749 bytes" in format 1 and 17,339 in format 2: one of that length is accepted
-- (`LengthClaims.antt`: none is longer)
pub record Longest (f : ℕ) : Type 0 where
  pub image : List ℕ
  pub bytes : Bytes image
  pub accepted : (opened_of image).answer ≡ Verdict.Accepted
  pub format : (opened_of image).net.format ≡ f
  pub long : length image ≡ longest_in f

unfoldable pub LongestIsReached : Type 0
LongestIsReached = Longest 1 × Longest 2
