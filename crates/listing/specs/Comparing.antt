-- Describes the code, and is no part of what a reader has to believe: the bytes of our register are compared with those of
-- a listing from the front of both, a number as a whole, and what comes out is `listing_of` (`proofs/ComparedLines.antt`).
pub use Rattle.listing.specs.declared.comparing.Number.{Number}
pub use Rattle.listing.specs.declared.comparing.Cursor.{Cursor}
use Rattle.std.specs.Prelude.{ℕ, ◌+◌, ◌-◌, ◌*◌, ◌<◌, ◌≤◌, ◌≡◌, Bool, true, false, List, [], ◌∷◌, length, drop, eqb, leb, ltb, Option, Some, None, Ok, Err}
use Rattle.net.specs.Choice.{choose, both, in_range}
use Rattle.lexemes.specs.Lexemes.{is_digit}
use Rattle.listing.specs.Listing.{Checked, Mismatch, digits_of, after_digits, value_from, writes}

-- the byte b stands first
unfoldable pub stands_first : ℕ → List ℕ → Bool
stands_first b [] = false
stands_first b (c ∷ theirs) = eqb c b

-- what is answered in line i where the bytes part; `fresh` says that the line begins here
unfoldable pub parted_at : Bool → ℕ → List ℕ → Checked
parted_at fresh i [] = choose fresh (Err (Mismatch.Wanting i)) (Err (Mismatch.Differs i))
parted_at fresh i (c ∷ theirs) = Err (Mismatch.Differs i)

-- ours are left of the register and theirs of the listing, from line i on; `passing` says that ours may open with digits
-- of a number that was compared
unfoldable pub comparing : Bool → Bool → ℕ → List ℕ → List ℕ → Checked
comparing passing fresh i [] [] = Ok tt
comparing passing fresh i [] (c ∷ theirs) = Err (Mismatch.LeftOver i)
comparing passing fresh i (b ∷ ours) theirs =
    choose (is_digit b)
    (choose passing (comparing true fresh i ours theirs)
    (choose (writes (value_from 0 (digits_of (b ∷ ours))) (digits_of theirs))
    (comparing true false i ours (after_digits theirs))
    (parted_at fresh i theirs)))
    (choose (stands_first b theirs)
    (comparing false (eqb b 10) (choose (eqb b 10) (i + 1) i) ours (drop 1 theirs))
    (parted_at fresh i theirs))

-- a whole register with a whole listing
unfoldable pub compared_of : List ℕ → List ℕ → Checked
compared_of ours theirs = comparing false true 1 ours theirs

-- ---- numbers

-- the number v with the digit b after it; one that ten digits cannot write stays as it is
unfoldable pub longer : ℕ → ℕ → ℕ
longer v b = choose (ltb v 10000000000) (v * 10 + (b - 48)) v

-- `value_from`, so cut off
unfoldable pub cut_from : ℕ → List ℕ → ℕ
cut_from v [] = v
cut_from v (b ∷ rest) = cut_from (longer v b) rest

-- the digits from a place on: what they write, cut off, and the place after them
unfoldable pub number_at : List ℕ → ℕ → Number
number_at s from = record {
  value = cut_from 0 (digits_of (drop from s));
  next = from + length (digits_of (drop from s));
}

-- digits being read from a place on, those up to `next` being found
pub record Reading (s : List ℕ) (from value next : ℕ) : Type 0 where
  pub value_is : cut_from value (digits_of (drop next s)) ≡ cut_from 0 (digits_of (drop from s))
  pub next_is : next + length (digits_of (drop next s)) ≡ from + length (digits_of (drop from s))

-- theirs, from a place on, is one to ten digits that write our number
unfoldable pub alike : Number → Number → ℕ → Bool
alike mine other from = both (in_range 1 (other.next - from) 10) (eqb other.value mine.value)

-- ---- cursors

-- what comes out from a cursor on, where the bytes part there, and where ours end there
unfoldable pub compared_from : List ℕ → List ℕ → Cursor → Checked
compared_from ours theirs at = comparing false at.fresh at.line (drop at.ours ours) (drop at.theirs theirs)

unfoldable pub parted_from : List ℕ → Cursor → Checked
parted_from theirs at =
    choose (both at.fresh (leb (length theirs) at.theirs)) (Err (Mismatch.Wanting at.line)) (Err (Mismatch.Differs at.line))

unfoldable pub ended_from : List ℕ → Cursor → Checked
ended_from theirs at = choose (ltb at.theirs (length theirs)) (Err (Mismatch.LeftOver at.line)) (Ok tt)

-- the cursor after a number and after a byte
unfoldable pub after_number : Cursor → Number → Number → Cursor
after_number at mine other = record { ours = mine.next; theirs = other.next; line = at.line; fresh = false }

unfoldable pub after_byte : Cursor → ℕ → Cursor
after_byte at b = record {
  ours = at.ours + 1;
  theirs = at.theirs + 1;
  line = choose (eqb b 10) (at.line + 1) at.line;
  fresh = eqb b 10;
}

-- ours is left at a cursor, and no more lines than bytes are passed
pub record Open (ours : List ℕ) (at : Cursor) : Type 0 where
  pub left : at.ours < length ours
  pub lines : at.line ≤ at.ours + 1

-- each number of a cursor has one more after it
pub record Advances (at : Cursor) : Type 0 where
  pub ours : at.ours < 18446744073709551615
  pub theirs : at.theirs < 18446744073709551615
  pub line : at.line < 18446744073709551615

-- what a turn from a cursor gives
pub data Turned (ours theirs : List ℕ) (at : Cursor) : Option Cursor → Type 0 where
  goes_on :
      {next : Cursor}
      → compared_from ours theirs next ≡ compared_from ours theirs at
      → at.ours < next.ours
      → next.line ≤ next.ours + 1
      → Turned ours theirs at (Some next)
  parts : parted_from theirs at ≡ compared_from ours theirs at → Turned ours theirs at None

-- the comparison has come to a cursor
pub record Compared (ours theirs : List ℕ) (at : Cursor) : Type 0 where
  pub rest : compared_from ours theirs at ≡ compared_of ours theirs
  pub lines : at.line ≤ at.ours + 1
