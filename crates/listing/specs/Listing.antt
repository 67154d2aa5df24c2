-- Checking a listing of the old host (document 02, slip 5: "accept it exactly when its lines carry our register's words and
-- values in order").
pub use Rattle.listing.specs.declared.checking.Age.{Age}
pub use Rattle.listing.specs.declared.checking.Mismatch.{Mismatch}
use Rattle.std.specs.Prelude.{ℕ, ◌+◌, ◌-◌, ◌*◌, Bool, true, false, List, [], ◌∷◌, length, take, eqb, ℤ, Result, Ok, Err}
use Rattle.net.specs.Choice.{choose, both, in_range}
use Rattle.image.specs.Image.{opened_of}
use Rattle.lexemes.specs.Lexemes.{is_digit}
use Rattle.run.specs.Run.{run_of}
use Rattle.lines.specs.Words.{Word, name, number, reading, address}
use Rattle.lines.specs.declared.shown.Parts.{Parts}
use Rattle.lines.specs.Shown.{unnamed, no_parts, all_parts}
use Rattle.registers.specs.Register.{register_lines}

-- a listing agrees, or it does not from a line on
abbrev pub Checked : Type 0
Checked = Result (Unit {0}) Mismatch

-- ---- what is wanted

-- "old, from before the `total` line and the refusal's bit, are checked without both; those he calls new, with both"; and
-- the mark of a tuple "for listings the caller calls new" (slip 8)
unfoldable pub parts_for : Age → Parts
parts_for Age.Old = no_parts
parts_for Age.New = all_parts

-- the lines of our register of an image and its picks, of which the first 65,536 count: without names, which the check
-- does not know (slip 14)
unfoldable pub wanted_lines : List ℕ → List ℕ → Age → List (List Word)
wanted_lines image picks age =
    register_lines (unnamed (parts_for age)) (opened_of image).net (take 65536 picks) (run_of image (take 65536 picks))

-- ---- the lines of a listing

-- a byte at the front of the first line
unfoldable pub at_front : ℕ → List (List ℕ) → List (List ℕ)
at_front b [] = (b ∷ []) ∷ []
at_front b (line ∷ lines) = (b ∷ line) ∷ lines

-- a line ends with its newline (10); bytes after the last newline are a line that lacks it
unfoldable pub listed : List ℕ → List (List ℕ)
listed [] = []
listed (b ∷ text) = choose (eqb b 10) ((b ∷ []) ∷ listed text) (at_front b (listed text))

-- ---- "carry our register's words and values": each test takes its part from the front of the bytes, and the bytes after
-- it have to pass the next one

unfoldable pub byte_then : ℕ → (List ℕ → Bool) → List ℕ → Bool
byte_then b next [] = false
byte_then b next (c ∷ rest) = both (eqb c b) (next rest)

-- "all else is byte for byte"
unfoldable pub text_then : List ℕ → (List ℕ → Bool) → List ℕ → Bool
text_then [] next rest = next rest
text_then (b ∷ text) next rest = byte_then b (text_then text next) rest

-- the digits at the front, and what stands after them
unfoldable pub digits_of : List ℕ → List ℕ
digits_of [] = []
digits_of (b ∷ rest) = choose (is_digit b) (b ∷ digits_of rest) []

unfoldable pub after_digits : List ℕ → List ℕ
after_digits [] = []
after_digits (b ∷ rest) = choose (is_digit b) (after_digits rest) (b ∷ rest)

-- the number that digits write after the number v
unfoldable pub value_from : ℕ → List ℕ → ℕ
value_from v [] = v
value_from v (b ∷ rest) = value_from (v * 10 + (b - 48)) rest

-- "up to ten digits, leading zeros among them"
unfoldable pub writes : ℕ → List ℕ → Bool
writes n digits = both (in_range 1 (length digits) 10) (eqb (value_from 0 digits) n)

unfoldable pub number_then : ℕ → (List ℕ → Bool) → List ℕ → Bool
number_then n next rest = both (writes n (digits_of rest)) (next (after_digits rest))

-- a minus (45) and an @ (64) stand before the padding
unfoldable pub word_then : Word → (List ℕ → Bool) → List ℕ → Bool
word_then (name text) next rest = text_then text next rest
word_then (number n) next rest = number_then n next rest
word_then (reading (ℤ.pos n)) next rest = number_then n next rest
word_then (reading (ℤ.negsuc n)) next rest = byte_then 45 (number_then (n + 1) next) rest
word_then (address l) next rest = byte_then 64 (number_then l.0 next) rest

-- words with a space (32) before each
unfoldable pub words_then : List Word → (List ℕ → Bool) → List ℕ → Bool
words_then [] next rest = next rest
words_then (w ∷ ws) next rest = byte_then 32 (word_then w (words_then ws next)) rest

-- "a wanted line without its newline differs": the newline, and no byte after it
unfoldable pub nothing_left : List ℕ → Bool
nothing_left [] = true
nothing_left (b ∷ rest) = false

unfoldable pub line_ends : List ℕ → Bool
line_ends rest = byte_then 10 nothing_left rest

-- whether the bytes of a line carry these words and values
unfoldable pub carries : List Word → List ℕ → Bool
carries [] line = line_ends line
carries (w ∷ ws) line = word_then w (words_then ws line_ends) line

-- ---- the answer: "0, or the number and the first line at fault, from 1"

-- line i is wanted next, and listed next
unfoldable pub checked_from : ℕ → List (List Word) → List (List ℕ) → Checked
checked_from i [] [] = Ok tt
checked_from i [] (line ∷ lines) = Err (Mismatch.LeftOver i)
checked_from i (wanted ∷ more) [] = Err (Mismatch.Wanting i)
checked_from i (wanted ∷ more) (line ∷ lines) =
    choose (carries wanted line) (checked_from (i + 1) more lines) (Err (Mismatch.Differs i))

unfoldable pub checked_of : List (List Word) → List (List ℕ) → Checked
checked_of wanted lines = checked_from 1 wanted lines

-- of an image, its picks and a listing
unfoldable pub listing_of : List ℕ → List ℕ → List ℕ → Age → Checked
listing_of image picks listing age = checked_of (wanted_lines image picks age) (listed listing)

-- "41 a line differs, 42 lines are wanting, 43 lines are left over"
unfoldable pub checked_number : Checked → ℕ
checked_number (Ok tt) = 0
checked_number (Err (Mismatch.Differs i)) = 41
checked_number (Err (Mismatch.Wanting i)) = 42
checked_number (Err (Mismatch.LeftOver i)) = 43

-- the first line at fault, 0 where there is none
unfoldable pub fault_line : Checked → ℕ
fault_line (Ok tt) = 0
fault_line (Err (Mismatch.Differs i)) = i
fault_line (Err (Mismatch.Wanting i)) = i
fault_line (Err (Mismatch.LeftOver i)) = i
