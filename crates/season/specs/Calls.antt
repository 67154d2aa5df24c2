-- What asking for the figures gives, and what it leaves in the lent buffer, at every input.
pub use Rattle.season.specs.declared.figures.Unfigured.{Unfigured}
use Rattle.std.specs.Prelude.{ℕ, List, length, leb, Result, Ok, Err}
use Rattle.net.specs.Choice.{choose}
use Rattle.text.specs.Buffer.{over}
use Rattle.season.specs.Season.{Season, no_runs, too_many, figures}

-- the length of the figures, or why they were not written
abbrev pub Figured : Type 0
Figured = Result ℕ Unfigured

-- the paper's number of an answer: 35 for a buffer that is too short
unfoldable pub figured_number : Figured → ℕ
figured_number (Ok n) = 0
figured_number (Err Unfigured.NoRuns) = 44
figured_number (Err Unfigured.TooMany) = 45
figured_number (Err Unfigured.NoRoom) = 35

-- the length of the figures where they were written: 44 and 45 come before 35
unfoldable pub figured_of : Season → ℕ → Figured
figured_of no_runs room = Err Unfigured.NoRuns
figured_of too_many room = Err Unfigured.TooMany
figured_of (figures text) room = choose (leb (length text) room) (Ok (length text)) (Err Unfigured.NoRoom)

-- and the paper's number of that
unfoldable pub season_number : Season → ℕ → ℕ
season_number no_runs room = 44
season_number too_many room = 45
season_number (figures text) room = choose (leb (length text) room) 0 35

-- the buffer after it: the figures, and its other bytes as they were; as it was where none were written
unfoldable pub figures_in : Season → List ℕ → List ℕ
figures_in no_runs buffer = buffer
figures_in too_many buffer = buffer
figures_in (figures text) buffer = choose (leb (length text) (length buffer)) (over buffer 0 text) buffer
