-- What is claimed of the check of a listing (document 02, slip 5): it accepts our own register, every listing made from it
-- by padding its numbers, and no other; it names the first line at fault; and the first bytes of a listing decide.
use Rattle.std.specs.Prelude.{ℕ, ◌+◌, ◌<◌, ◌≤◌, ◌≡◌, List, [], ◌∷◌, ◌++◌, length, get_or, take, replicate, ℤ, Ok, Err}
use Rattle.net.specs.declared.locality.Locality.{Locality}
use Rattle.text.specs.Decimal.{decimal}
use Rattle.lines.specs.Words.{Word, name, number, reading, address, printed}
use Rattle.registers.specs.Register.{register_of}
use Rattle.listing.specs.Listing.{Age, Checked, Mismatch, wanted_lines, listed, listing_of}

-- ---- "The old program pads numbers: up to ten digits, leading zeros among them; all else is byte for byte"

-- k noughts (48) before a number's plain decimal, at most ten digits in all
pub data PaddedNumber (n : ℕ) : List ℕ → Type 0 where
  padded : (k : ℕ) → k + length (decimal n) ≤ 10 → PaddedNumber n (replicate k 48 ++ decimal n)

-- a word: a minus (45) and an @ (64) stand before the padding
pub data PaddedWord : Word → List ℕ → Type 0 where
  as_it_is : {text : List ℕ} → PaddedWord (name text) text
  a_number : {n : ℕ} {ds : List ℕ} → PaddedNumber n ds → PaddedWord (number n) ds
  above : {n : ℕ} {ds : List ℕ} → PaddedNumber n ds → PaddedWord (reading (ℤ.pos n)) ds
  below : {n : ℕ} {ds : List ℕ} → PaddedNumber (n + 1) ds → PaddedWord (reading (ℤ.negsuc n)) (45 ∷ ds)
  an_address : {l : Locality} {ds : List ℕ} → PaddedNumber l.0 ds → PaddedWord (address l) (64 ∷ ds)

-- words with a space (32) before each
pub data PaddedWords : List Word → List ℕ → Type 0 where
  no_words : PaddedWords [] []
  word_first :
      {w : Word} {ws : List Word} {u t : List ℕ}
      → PaddedWord w u
      → PaddedWords ws t
      → PaddedWords (w ∷ ws) (32 ∷ (u ++ t))

-- a line: single spaces between its words, and a newline (10) after the last
pub data PaddedLine : List Word → List ℕ → Type 0 where
  empty_line : PaddedLine [] (10 ∷ [])
  line_of :
      {w : Word} {ws : List Word} {u t : List ℕ}
      → PaddedWord w u
      → PaddedWords ws t
      → PaddedLine (w ∷ ws) (u ++ (t ++ 10 ∷ []))

-- lines, one after another
pub data Padded : List (List Word) → List ℕ → Type 0 where
  no_lines : Padded [] []
  line_then :
      {line : List Word} {lines : List (List Word)} {u t : List ℕ}
      → PaddedLine line u
      → Padded lines t
      → Padded (line ∷ lines) (u ++ t)

-- ---- the claims, of every image and every list of picks, each a byte

-- our own register agrees: today's where the caller calls it new, and in the form of either age
pub record PlainAgrees : Type 0 where
  pub today :
      (image picks : List ℕ)
      → ((i : ℕ) → get_or picks i 0 < 256)
      → listing_of image picks (register_of image picks) Age.New ≡ Ok tt
  pub either :
      (image picks : List ℕ) (age : Age)
      → ((i : ℕ) → get_or picks i 0 < 256)
      → listing_of image picks (printed (wanted_lines image picks age)) age ≡ Ok tt

-- so does every listing made from it by padding numbers
unfoldable pub PaddedAgrees : Type 0
PaddedAgrees =
    (image picks listing : List ℕ) (age : Age)
    → Padded (wanted_lines image picks age) listing
    → listing_of image picks listing age ≡ Ok tt

-- and no other does
unfoldable pub AgreesOnly : Type 0
AgreesOnly =
    (image picks listing : List ℕ) (age : Age)
    → listing_of image picks listing age ≡ Ok tt
    → Padded (wanted_lines image picks age) listing

-- ---- the first line at fault, by what stands in the lines

-- each of the first n lines of a listing is a padding of the wanted one
unfoldable pub PaddedBelow : ℕ → List (List Word) → List (List ℕ) → Type 0
PaddedBelow n wanted lines = (j : ℕ) → j < n → PaddedLine (get_or wanted j []) (get_or lines j [])

-- what is answered where the lines are numbered from i on
pub data FirstFault (i : ℕ) (wanted : List (List Word)) (lines : List (List ℕ)) : Checked → Type 0 where
  no_fault : length lines ≡ length wanted → PaddedBelow (length wanted) wanted lines → FirstFault i wanted lines (Ok tt)
  line_differs :
      (n : ℕ)
      → n < length wanted
      → n < length lines
      → PaddedBelow n wanted lines
      → (PaddedLine (get_or wanted n []) (get_or lines n []) → ⊥)
      → FirstFault i wanted lines (Err (Mismatch.Differs (i + n)))
  lines_wanting :
      length lines < length wanted
      → PaddedBelow (length lines) wanted lines
      → FirstFault i wanted lines (Err (Mismatch.Wanting (i + length lines)))
  lines_left :
      length wanted < length lines
      → PaddedBelow (length wanted) wanted lines
      → FirstFault i wanted lines (Err (Mismatch.LeftOver (i + length wanted)))

unfoldable pub FaultIsFirst : Type 0
FaultIsFirst =
    (image picks listing : List ℕ) (age : Age)
    → FirstFault 1 (wanted_lines image picks age) (listed listing) (listing_of image picks listing age)

-- ---- how many bytes are looked at

-- how many bytes the longest listing has that agrees: of 65,536 picks and of 16 addresses, each with 16 tuples of four
-- readings below nought, every number padded to ten digits
abbrev pub longest_listing : ℕ
longest_listing = 3232651

-- no listing that agrees is longer
unfoldable pub LongestListing : Type 0
LongestListing =
    (image picks listing : List ℕ) (age : Age)
    → listing_of image picks listing age ≡ Ok tt
    → length listing ≤ longest_listing

-- the first bytes, one more than that, decide what is answered
unfoldable pub FirstBytesDecide : Type 0
FirstBytesDecide =
    (image picks listing : List ℕ) (age : Age) (k : ℕ)
    → longest_listing < k
    → listing_of image picks (take k listing) age ≡ listing_of image picks listing age
