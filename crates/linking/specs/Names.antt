-- The names of a source (document 01, "The planners' notation"): each that is used is defined, none is defined twice, and
-- none goes in a circle.
use Rattle.std.specs.Prelude.{ℕ, ◌+◌, Bool, true, false, List, [], ◌∷◌, eqb, leb}
use Rattle.net.specs.Choice.{choose, both, all, implies}
use Rattle.terms.specs.Numbering.{called, uses}
use Rattle.linking.specs.Source.{Line, definition, process, tuple}
use Rattle.linking.specs.Compiled.{is_here, settled}

-- ---- whether the name k is used
unfoldable pub uses_line : ℕ → Line → Bool
uses_line k (definition j p) = uses k p
uses_line k (process a p) = uses k p
uses_line k (tuple a t) = false

unfoldable pub used : ℕ → List Line → Bool
used k [] = false
used k (l ∷ ls) = choose (uses_line k l) true (used k ls)

-- ---- how often it is defined
unfoldable pub defines : ℕ → Line → ℕ
defines k (definition j p) = choose (eqb k j) 1 0
defines k (process a p) = 0
defines k (tuple a t) = 0

unfoldable pub defined : ℕ → List Line → ℕ
defined k [] = 0
defined k (l ∷ ls) = defines k l + defined k ls

-- ---- the names are right, used or not
unfoldable pub name_right : List Line → ℕ → Bool
name_right ls k =
    both (leb (defined k ls) 1)
    (both (implies (used k ls) (leb 1 (defined k ls)))
    (implies (leb 1 (defined k ls)) (is_here (settled ls (called k)))))

unfoldable pub names_right : List Line → Bool
names_right ls = all 512 (name_right ls)
