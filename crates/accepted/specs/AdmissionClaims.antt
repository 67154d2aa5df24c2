-- The policy check of an image from outside (document 01, "Reaching and rights"; "Numbers for an image", number 30): by what
-- a process reaches, and by no test.
use Rattle.std.specs.Prelude.{ℕ, ◌≡◌, ◌↔◌, List}
use Rattle.keeping.specs.AdmissionClaims.{StartsWithin}
use Rattle.accepted.specs.Types.{Net}
use Rattle.readers.specs.Reader.{got}
use Rattle.image.specs.Image.{layout, accepted, opened_of, number_of}

-- an image that meets the layout is accepted with the net that it writes down exactly when each starting process keeps
-- within its row
unfoldable pub AcceptedIsWithin : Type 0
AcceptedIsWithin =
    (image : List ℕ) (s : Net) (p : ℕ)
    → layout image 0 ≡ got s p
    → (opened_of image ≡ accepted s) ↔ StartsWithin s

-- the image meets the layout (21 to 29 are absent), and a starting process reaches beyond its row
pub data Beyond (image : List ℕ) : Type 0 where
  beyond : {s : Net} {p : ℕ} → layout image 0 ≡ got s p → (StartsWithin s → ⊥) → Beyond image

-- that is where the number is 30, and nowhere else
unfoldable pub ThirtyIsBeyond : Type 0
ThirtyIsBeyond = (image : List ℕ) → (number_of (opened_of image).answer ≡ 30) ↔ Beyond image
