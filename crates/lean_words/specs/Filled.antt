-- Describes the code, and is no part of what a reader has to believe: an array whose first n places are given by a function.
use Rattle.std.specs.Prelude.{ℕ, List, set}
use Rattle.net.specs.Choice.{fold}

unfoldable pub filled : {A : Type 0} → ℕ → (ℕ → A) → List A → List A
filled n f start = fold n (λ i xs. set xs i (f i)) start
