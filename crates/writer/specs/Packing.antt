-- Describes the code, and is no part of what a reader has to believe: what the packing of bits into bytes gives.
use Rattle.std.specs.Prelude.{ℕ, ◌*◌, Bool, List, [], ◌∷◌}
use Rattle.text.specs.Joined.{joined}
use Rattle.written.specs.ImageOf.{number_in}

-- the first n bytes that hold the bits
unfoldable pub bytes_in : List Bool → ℕ → List ℕ
bytes_in bits n = joined n (λ i. number_in bits (8 * i) 8 ∷ [])
