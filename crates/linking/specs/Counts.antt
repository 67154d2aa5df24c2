-- How many processes and tuples an address has, by the lines before (document 01, "The planners' notation").
use Rattle.std.specs.Prelude.{ℕ, ◌+◌, List, [], ◌∷◌, eqb}
use Rattle.net.specs.Choice.{choose}
use Rattle.linking.specs.Types.{Locality}
use Rattle.linking.specs.Source.{Line, definition, process, tuple}

unfoldable pub processes_in : Locality → Line → ℕ
processes_in a (definition k p) = 0
processes_in a (process b p) = choose (eqb a.0 b.0) 1 0
processes_in a (tuple b t) = 0

unfoldable pub tuples_in : Locality → Line → ℕ
tuples_in a (definition k p) = 0
tuples_in a (process b p) = 0
tuples_in a (tuple b t) = choose (eqb a.0 b.0) 1 0

-- the sum of what a line counts for
unfoldable pub counted : (Line → ℕ) → List Line → ℕ
counted f [] = 0
counted f (l ∷ ls) = f l + counted f ls
