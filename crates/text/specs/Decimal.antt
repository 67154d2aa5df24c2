-- Numbers in plain decimal, as bytes (document 01, "The register").
use Rattle.std.specs.Prelude.{ℕ, zero, suc, ◌+◌, ◌/◌, ◌%◌, List, [], ◌∷◌, ◌++◌, ltb, ℤ}
use Rattle.net.specs.Choice.{choose}

-- the digit of a number below 10
unfoldable pub digit : ℕ → ℕ
digit n = 48 + n

-- a number's digits, of which there are at most as many as the first argument says
unfoldable pub digits : ℕ → ℕ → List ℕ
digits zero n = []
digits (suc k) n = choose (ltb n 10) (digit n ∷ []) (digits k (n / 10) ++ digit (n % 10) ∷ [])

-- plain decimal: 20 digits are enough for every number of 64 bits
unfoldable pub decimal : ℕ → List ℕ
decimal n = digits 20 n

-- with a minus (45) below nought
unfoldable pub signed_decimal : ℤ → List ℕ
signed_decimal (ℤ.pos n) = decimal n
signed_decimal (ℤ.negsuc n) = 45 ∷ decimal (n + 1)
