-- What the place of a refusal means (document 02, slip 2: "Where the image went bad").
use Rattle.std.specs.Prelude.{ℕ, ◌*◌, ◌<◌, ◌≤◌, ◌≡◌, List, length, take}
use Rattle.readers.specs.Reader.{field_end}
use Rattle.bitreader.specs.SameBits.{SameBits}
use Rattle.image.specs.Image.{opened_of}
use Rattle.faults.specs.Types.{Fault, Verdict}

-- an image is refused with this fault
unfoldable pub RefusedWith : List ℕ → Fault → Type 0
RefusedWith s f = (opened_of s).answer ≡ Verdict.Refused f

-- The place is at most the number of bits. It may be that number: no bytes are refused with 28 at 0.
unfoldable pub FaultInside : Type 0
FaultInside = (s : List ℕ) (f : Fault) → RefusedWith s f → f.place ≤ 8 * length s

-- The first fault is reported, each field judged once its bits are read: of two images that agree in the bits up to the end
-- of the field at fault, and both have them, the second is refused as the first is, for the numbers 21 to 27.
unfoldable pub FaultStays : Type 0
FaultStays = (s t : List ℕ) (f : Fault) → RefusedWith s f → f.number ≤ 27 → SameBits (field_end f) s t → RefusedWith t f

-- a refusal with 28, at a place not above the number of bits of k bytes
pub record CutIn (k : ℕ) (s : List ℕ) : Type 0 where
  pub fault : Fault
  pub refused : RefusedWith s fault
  pub is : fault.number ≡ 28
  pub inside : fault.place ≤ 8 * k

-- An accepted image cut to fewer bytes is refused with 28.
unfoldable pub CutAnywhere : Type 0
CutAnywhere = (s : List ℕ) (k : ℕ) → (opened_of s).answer ≡ Verdict.Accepted → k < length s → CutIn k (take k s)
