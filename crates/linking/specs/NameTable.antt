-- Describes the code, and is no part of what a reader has to believe: the names of a text in three tables of 512 entries.
-- Entry k of `bodies` is the word (`start_word` of `Table.antt`) of what name k stands for: where its body starts, or the
-- name itself until it is defined. Entry k of `defs` says whether it is defined, and entry k of `uses` whether it is used.
use Rattle.linking.specs.declared.names.Start as coded
use Rattle.std.specs.Prelude.{ℕ, zero, suc, ◌-◌, ◌<◌, ◌≡◌, Bool, false, not, List, get_or, leb, ltb}
use Rattle.net.specs.Choice.{choose, both, all, implies}
use Rattle.terms.specs.Numbering.{Start, here, called}
use Rattle.linking.specs.Source.{Line}
use Rattle.linking.specs.Compiled.{defined_in, is_here}
use Rattle.linking.specs.Names as Names

-- ---- where a body starts

-- what a word stands for
unfoldable pub start_from : ℕ → Start
start_from w = choose (ltb w 512) (called w) (here (w - 512))

unfoldable pub start_in : List ℕ → ℕ → Start
start_in bodies k = start_from (get_or bodies k 0)

-- what the code's start is
abbrev pub start_for : coded.Start → Start
start_for (coded.Start.Here n) = here n
start_for (coded.Start.Called k) = called k

-- the start that names settle at, after at most h of them
unfoldable pub settle_in : ℕ → List ℕ → Start → Start
settle_in zero bodies x = x
settle_in (suc h) bodies (here n) = here n
settle_in (suc h) bodies (called k) = settle_in h bodies (start_in bodies k)

unfoldable pub settled_in : List ℕ → Start → Start
settled_in bodies x = settle_in 512 bodies x

-- ---- the names are right

unfoldable pub name_right_in : List ℕ → List Bool → List Bool → ℕ → Bool
name_right_in bodies defs uses k =
    both (implies (get_or uses k false) (get_or defs k false))
    (implies (get_or defs k false) (is_here (settled_in bodies (called k))))

-- `twice` says whether a name is defined twice
unfoldable pub names_right_in : List ℕ → List Bool → List Bool → Bool → Bool
names_right_in bodies defs uses twice = both (not twice) (all 512 (name_right_in bodies defs uses))

-- ---- the tables hold what the lines say
pub record Held (ls : List Line) (bodies : List ℕ) (defs uses : List Bool) (twice : Bool) : Type 0 where
  pub body : (k : ℕ) → k < 512 → start_in bodies k ≡ defined_in k 0 ls
  pub defined : (k : ℕ) → k < 512 → get_or defs k false ≡ leb 1 (Names.defined k ls)
  pub used : (k : ℕ) → k < 512 → get_or uses k false ≡ Names.used k ls
  pub once : not twice ≡ all 512 (λ k. leb (Names.defined k ls) 1)
