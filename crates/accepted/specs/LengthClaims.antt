-- How long an image can be (document 01, "The longest accepted image has 14,749 bytes"; in format 2 "the longest image
-- becomes 17,339 bytes", document 02, slip 11).
use Rattle.std.specs.Prelude.{ℕ, ◌<◌, ◌≤◌, ◌≡◌, List, eqb, length, take}
use Rattle.net.specs.Choice.{choose}
use Rattle.accepted.specs.Types.{Verdict}
use Rattle.image.specs.Image.{opened_of}

-- how many bytes the longest accepted image of a format has
unfoldable pub longest_in : ℕ → ℕ
longest_in f = choose (eqb f 1) 14749 17339

-- of either format
abbrev pub longest_image : ℕ
longest_image = 17339

-- the first bytes, one more than that, decide what an image gives
unfoldable pub FirstBytesDecide : Type 0
FirstBytesDecide = (s : List ℕ) (k : ℕ) → longest_image < k → opened_of (take k s) ≡ opened_of s

-- no accepted image is longer than the longest of its format
unfoldable pub LongestAccepted : Type 0
LongestAccepted = (s : List ℕ) → (opened_of s).answer ≡ Verdict.Accepted → length s ≤ longest_in (opened_of s).net.format
