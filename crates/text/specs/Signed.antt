-- Signed numbers.
use Rattle.std.specs.Prelude.{ℕ, ◌-◌, ltb, ℤ}
use Rattle.net.specs.Choice.{choose}

-- the number whose last 32 binary digits are the two's complement of a reading
unfoldable pub complement_of : ℤ → ℕ
complement_of (ℤ.pos v) = v
complement_of (ℤ.negsuc v) = 4294967295 - v

-- 32 binary digits of two's complement, read back
unfoldable pub signed : ℕ → ℤ
signed v = choose (ltb v 2147483648) (ℤ.pos v) (ℤ.negsuc (4294967295 - v))
