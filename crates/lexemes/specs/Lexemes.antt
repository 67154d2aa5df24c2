-- The smallest parts of the planners' notation (document 01, "The planners' notation"): bytes, words and numbers. A place
-- is that of the next byte. What does not belong is 31. A fault stands where reading stood, though of a text only its number is told.
use Rattle.std.specs.Prelude.{ℕ, ◌+◌, ◌-◌, ◌*◌, Bool, true, false, List, [], ◌∷◌, get_or, length, eqb, leb, ltb}
use Rattle.net.specs.Choice.{choose, both}
use Rattle.readers.specs.Reader.{got, fault, Reader, pure, ◌>>=◌, ◌>>◌, each, fault_at, require}

-- the byte at a place; past the end 0, which stands nowhere in the notation
unfoldable pub byte_at : List ℕ → ℕ → ℕ
byte_at s p = get_or s p 0

-- the reader that the byte here decides on
unfoldable pub look : {A : Type 0} → (ℕ → Reader A) → Reader A
look f s p = f (byte_at s p) s p

-- the fault n, whatever stands here
unfoldable pub fail : {A : Type 0} → ℕ → Reader A
fail n s p = fault (fault_at n p 0)

-- the byte c
unfoldable pub byte : ℕ → Reader (Unit {0})
byte c s p = choose (both (ltb p (length s)) (eqb (byte_at s p) c)) (got tt (p + 1)) (fault (fault_at 31 p 0))

-- the bytes of a word
unfoldable pub word : List ℕ → Reader (Unit {0})
word [] = pure tt
word (c ∷ cs) = byte c >> word cs

-- whether the byte c stands here; it is read where it does
unfoldable pub present : ℕ → Reader Bool
present c = byte c >> pure true

unfoldable pub optional : ℕ → Reader Bool
optional c = look (λ b. choose (eqb b c) (present c) (pure false))

-- ---- numbers: plain decimal, with no leading zeros

unfoldable pub is_digit : ℕ → Bool
is_digit b = both (leb 48 b) (leb b 57)

unfoldable pub digit_of : ℕ → Reader ℕ
digit_of b = byte b >> pure (b - 48)

unfoldable pub digit : Reader ℕ
digit = look (λ b. choose (is_digit b) (digit_of b) (fail 31))

-- one digit more after the number v: nought has none after it
unfoldable pub longer : ℕ → ℕ → Reader ℕ
longer limit v = do
  d ← digit
  require (both (leb 1 v) (leb (v * 10 + d) limit)) 31
  pure (v * 10 + d)

-- the next digit, the i-th after the first, where there is one
unfoldable pub another : ℕ → ℕ → ℕ → Reader ℕ
another limit i v = look (λ b. choose (is_digit b) (longer limit v) (pure v))

-- the digits after the first one, d: ten of them go beyond every limit below 10,000,000,000
unfoldable pub rest : ℕ → ℕ → Reader ℕ
rest limit d = each 10 (another limit) d

-- a number up to a limit
unfoldable pub number : ℕ → Reader ℕ
number limit = do
  d ← digit
  require (leb d limit) 31
  rest limit d
