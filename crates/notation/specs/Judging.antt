-- Describes the code, and is no part of what a reader has to believe: what is judged of a text once its lines are read into
-- tables and a net (`State.antt` of `linking`).
use Rattle.std.specs.Prelude.{ℕ, Bool, List}
use Rattle.net.specs.Choice.{choose, in_range}
use Rattle.keeping.specs.Admission.{admits}
use Rattle.linking.specs.NameTable.{names_right_in}
use Rattle.linking.specs.Placing.{place_at, linked_net}
use Rattle.notation.specs.Types.{Net}
use Rattle.notation.specs.Text.{Opened, refused, accepted}

unfoldable pub judged_net : Net → Opened
judged_net s = choose (admits s) (accepted s) (refused 30)

unfoldable pub judged_count : List ℕ → List ℕ → List ℕ → ℕ → Net → Opened
judged_count table bodies starts n s =
    choose (in_range 1 n 512) (judged_net (linked_net (place_at bodies) table starts n s)) (refused 22)

unfoldable pub judged_names : List ℕ → List Bool → List ℕ → List Bool → List ℕ → ℕ → Bool → Net → Opened
judged_names table uses bodies defs starts n twice s =
    choose (names_right_in bodies defs uses twice) (judged_count table bodies starts n s) (refused 33)
