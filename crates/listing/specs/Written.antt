-- Describes the code, and is no part of what a reader has to believe: our register in a buffer.
use Rattle.std.specs.Prelude.{ℕ, ◌≡◌, List, length, take}
use Rattle.std.specs.Prelude.{Option, Some, None}
use Rattle.listing.specs.Listing.{Checked}
use Rattle.listing.specs.Comparing.{compared_of}

-- the buffer begins with a text, which was written whole
pub record Holds (out : List ℕ) (written : Option ℕ) (text : List ℕ) : Type 0 where
  pub whole : written ≡ Some (length text)
  pub front : take (length text) out ≡ text

-- what came out of the comparison of such a buffer with a listing
pub record ComparedIn (out : List ℕ) (written : Option ℕ) (listing : List ℕ) (r : Checked) : Type 0 where
  pub is : (text : List ℕ) → Holds out written text → r ≡ compared_of text listing
