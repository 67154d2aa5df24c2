-- Lines of words, and their bytes (document 01, "The register").
use Rattle.std.specs.Prelude.{ℕ, List, [], ◌∷◌, ◌++◌, ℤ}
use Rattle.text.specs.Decimal.{decimal, signed_decimal}
use Rattle.lines.specs.Types.{Locality}

-- a word of a line: a name by its bytes, a number, a reading, or an address with its @
pub data Word : Type 0 where
  name : List ℕ → Word
  number : ℕ → Word
  reading : ℤ → Word
  address : Locality → Word

-- its bytes: plain decimal, and the @ is 64
unfoldable pub word_text : Word → List ℕ
word_text (name text) = text
word_text (number n) = decimal n
word_text (reading x) = signed_decimal x
word_text (address l) = 64 ∷ decimal l.0

-- words with a space (32) before each
unfoldable pub spaced : List Word → List ℕ
spaced [] = []
spaced (w ∷ ws) = 32 ∷ (word_text w ++ spaced ws)

-- a line: single spaces between its words, and a newline (10) after the last
unfoldable pub line_text : List Word → List ℕ
line_text [] = 10 ∷ []
line_text (w ∷ ws) = word_text w ++ (spaced ws ++ 10 ∷ [])

-- lines, one after another
unfoldable pub printed : List (List Word) → List ℕ
printed [] = []
printed (line ∷ lines) = line_text line ++ printed lines
