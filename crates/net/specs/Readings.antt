-- Readings compared (document 01, "One pick": an actual equal in sort and value).
use Rattle.std.specs.Prelude.{Bool, false, eqb, ℤ}

-- two readings are equal
unfoldable pub same_reading : ℤ → ℤ → Bool
same_reading (ℤ.pos m) (ℤ.pos n) = eqb m n
same_reading (ℤ.pos m) (ℤ.negsuc n) = false
same_reading (ℤ.negsuc m) (ℤ.pos n) = false
same_reading (ℤ.negsuc m) (ℤ.negsuc n) = eqb m n
