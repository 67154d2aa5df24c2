-- Describes the code, and is no part of what a reader has to believe: how the readers of `src/` keep to the definitions.
use Rattle.std.specs.Prelude.{ℕ, ◌≤◌, ◌≡◌, List, Result, Ok, Err}
use Rattle.image.specs.Types.{Fault, Net}
use Rattle.readers.specs.Progress.{came}
use Rattle.image.specs.Image.{header, rows}

-- what a function answered, with the value that it read into what it was lent
abbrev pub placed : {A B : Type 0} → Result B Fault → A → Result A Fault
placed (Ok b) a = Ok a
placed (Err f) a = Err f

abbrev pub filled : {A : Type 0} → Result (Unit {0}) Fault → A → Result A Fault
filled o a = placed o a

-- counts in range
pub record Sized (net : Net) : Type 0 where
  pub few : net.addresses ≤ 16
  pub short : net.length ≤ 512

-- the same counts
pub record Counted (s t : Net) : Type 0 where
  pub addresses : t.addresses ≡ s.addresses
  pub length : t.length ≡ s.length

-- at place q the entries of the net's processes begin, after the header and the rows
pub record Begun (s : List ℕ) (q : ℕ) (net : Net) : Type 0 where
  pub headed : ℕ
  pub start : Net
  pub ruled : Net
  pub first : came (Ok start) headed ≡ header s 0
  pub second : came (Ok ruled) q ≡ rows start s headed
  pub addresses : net.addresses ≡ start.addresses
