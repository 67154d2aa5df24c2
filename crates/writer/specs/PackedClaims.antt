-- What the number and the buffer of a written net mean (`Calls.antt`), in terms of images (document 01, "The image",
-- "Numbers for an image").
use Rattle.std.specs.Prelude.{Ok, Err, ℕ, ◌≡◌, List, length, take, drop}
use Rattle.image.specs.Image.{opened_of, accepted}
use Rattle.writer.specs.Types.{Net}
use Rattle.writer.specs.Calls.{Unwritten, packed_of, packed_number, image_in}
use Rattle.written.specs.WrittenClaims.{Bytes}

-- what is written is an image that gives the net, and the bytes beyond it stay
unfoldable pub PackedIsAccepted : Type 0
PackedIsAccepted =
    (net : Net) (buffer : List ℕ) (n : ℕ) → packed_of net (length buffer) ≡ Ok n
    → (opened_of (take n (image_in net buffer)) ≡ accepted net) × (drop n (image_in net buffer) ≡ drop n buffer)

-- 36 exactly where no image gives the net
unfoldable pub NotFreshIsUngiven : Type 0
NotFreshIsUngiven =
    (net : Net) (room : ℕ)
    → (packed_of net room ≡ Err Unwritten.NotFresh → (s : List ℕ) → Bytes s → opened_of s ≡ accepted net → ⊥)
    × (((s : List ℕ) → Bytes s → opened_of s ≡ accepted net → ⊥) → packed_of net room ≡ Err Unwritten.NotFresh)

-- 36 and 35 leave the buffer as it was
unfoldable pub RefusalKeepsBuffer : Type 0
RefusalKeepsBuffer =
    (net : Net) (buffer : List ℕ) → (packed_number (packed_of net (length buffer)) ≡ 0 → ⊥) → image_in net buffer ≡ buffer
