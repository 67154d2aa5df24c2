-- What is written is read back (document 02, slip 13).
use Rattle.std.specs.Prelude.{ℕ, ◌≤◌, ◌≡◌, true, length}
use Rattle.fresh.specs.Fresh.{fresh_of}
use Rattle.notation.specs.Text.{read_of, accepted}
use Rattle.read_back.specs.Types.{Net}
use Rattle.read_back.specs.NetSource.{text_of}

-- "Reading the text back gives the identical net, code places included": of every net that an accepted image gives, in either
-- format
unfoldable pub ReadBack : Type 0
ReadBack = (s : Net) → fresh_of s ≡ true → read_of (text_of s) ≡ accepted s

-- at most 256 rows of 145 bytes, 512 definitions of 105, 64 processes of 11 and 256 tuples of 56
unfoldable pub longest_text : ℕ
longest_text = 105920

-- no such text is longer than the buffer of the programs
unfoldable pub WrittenInBounds : Type 0
WrittenInBounds = (s : Net) → fresh_of s ≡ true → length (text_of s) ≤ longest_text
