-- The lines of a text, by its bytes alone.
use Rattle.std.specs.Prelude.{ℕ, ◌+◌, Bool, true, false, List, [], ◌∷◌, eqb}
use Rattle.net.specs.Choice.{choose, both}

-- a byte at the front of the first line
unfoldable pub before : ℕ → List (List ℕ) → List (List ℕ)
before b [] = (b ∷ []) ∷ []
before b (line ∷ lines) = (b ∷ line) ∷ lines

-- each line ends at a newline (10), which is no part of it, or where the text ends
unfoldable pub lines_of : List ℕ → List (List ℕ)
lines_of [] = []
lines_of (b ∷ text) = choose (eqb b 10) ([] ∷ lines_of text) (before b (lines_of text))

-- the last of some lines, or the given one where there are none
unfoldable pub last_or : List ℕ → List (List ℕ) → List ℕ
last_or line [] = line
last_or line (next ∷ lines) = last_or next lines

-- the line opens with these bytes
unfoldable pub opens_with : List ℕ → List ℕ → Bool
opens_with [] line = true
opens_with (b ∷ word) [] = false
opens_with (b ∷ word) (c ∷ line) = both (eqb b c) (opens_with word line)

-- how many lines do
unfoldable pub opening : List ℕ → List (List ℕ) → ℕ
opening word [] = 0
opening word (line ∷ lines) = choose (opens_with word line) 1 0 + opening word lines
