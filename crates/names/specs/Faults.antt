-- The faults of lists of names by their numbers: "51 a length of 0, 52 an entry cut short, 53 a byte out of range".
use Rattle.std.specs.Prelude.{ℕ, Result, Ok, Err}
use Rattle.names.specs.declared.entries.NamesFault.{NamesFault}

unfoldable pub fault_number : NamesFault → ℕ
fault_number NamesFault.NoLength = 51
fault_number NamesFault.CutShort = 52
fault_number NamesFault.OutOfRange = 53

-- what a test answers: 0 is none
unfoldable pub number_of : Result (Unit {0}) NamesFault → ℕ
number_of (Ok _) = 0
number_of (Err fault) = fault_number fault
