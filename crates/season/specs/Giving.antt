-- Describes the code, and is no part of what a reader has to believe: what the calls that write figures give and leave.
use Rattle.std.specs.Prelude.{ℕ, ◌≡◌, List, length}
use Rattle.season.specs.Season.{Season}
use Rattle.season.specs.Calls.{Figured, figured_of, figures_in}

-- r was given, and `after` is left of the buffer
pub record Gave (season : Season) (buffer after : List ℕ) (r : Figured) : Type 0 where
  pub is : r ≡ figured_of season (length buffer)
  pub left : after ≡ figures_in season buffer
