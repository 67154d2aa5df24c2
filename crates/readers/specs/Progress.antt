-- Describes the code, and is no part of what a reader has to believe: how functions that answer a value or the first
-- fault, and come to a place, keep to the definitions of `Reader.antt`.
use Rattle.std.specs.Prelude.{ℕ, ◌-◌, ◌≡◌, List, Result, Ok, Err}
use Rattle.readers.specs.Reader.{Fault, Parsed, got, fault, Reader, each, turns}

-- what a function answered and the place that it came to, as an outcome: after a fault the place counts for nothing
unfoldable pub came : {A : Type 0} → Result A Fault → ℕ → Parsed A
came (Ok a) q = got a q
came (Err f) q = fault f

-- turns of a loop from place p₀ of the bytes s and value a₀: of n turns, i are done and have come to place p and value a
pub record Turning {A : Type 0} (s : List ℕ) (p₀ n : ℕ) (f : ℕ → A → Reader A) (a₀ : A) (p i : ℕ) (a : A) : Type 0 where
  pub rest : each n f a₀ s p₀ ≡ turns (n - i) i f a s p
