-- What writing a register gives, at every input.
use Rattle.std.specs.Prelude.{ℕ, List, Option, Some, None, length, leb}
use Rattle.net.specs.Choice.{choose}

-- a register's length, where the buffer is long enough for it; if not, the buffer holds as much of it as fits
unfoldable pub written_in : ℕ → ℕ → Option ℕ
written_in n room = choose (leb n room) (Some n) None

unfoldable pub registered_of : List ℕ → ℕ → Option ℕ
registered_of text room = written_in (length text) room

-- the paper's number of that answer, and what it is by the two lengths alone
unfoldable pub registered_number : Option ℕ → ℕ
registered_number (Some n) = 0
registered_number None = 35

unfoldable pub room_number : ℕ → ℕ → ℕ
room_number n room = choose (leb n room) 0 35

-- its length, 0 where it was not written whole: every register has a line
unfoldable pub registered_length : Option ℕ → ℕ
registered_length (Some n) = n
registered_length None = 0
