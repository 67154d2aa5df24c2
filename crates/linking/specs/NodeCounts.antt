-- Describes the code, and is no part of what a reader has to believe: a net whose nodes have what lines of a text have at
-- their addresses (`Counts.antt`).
use Rattle.std.specs.Prelude.{ℕ, ◌<◌, ◌≤◌, ◌≡◌, List, length, ltb}
use Rattle.net.specs.Records.{process_at, node_at, process_count}
use Rattle.linking.specs.Types.{Locality, Node, Net}
use Rattle.linking.specs.Source.{Line, definition, process, tuple}
use Rattle.linking.specs.Counts.{processes_in, tuples_in, counted}

-- ---- a node with c processes, in its first slots, and m tuples
pub record Holds (c m : ℕ) (x : Node) : Type 0 where
  pub size_is : length x.processes ≡ 4
  pub processes : process_count x ≡ c
  pub slots : (j : ℕ) → j < 4 → (process_at x j).busy ≡ ltb j c
  pub stored : x.stored ≡ m
  pub few_processes : c ≤ 4
  pub few_tuples : m ≤ 16

-- ---- a net with what the lines have at each address
pub record Counts (ls : List Line) (s : Net) : Type 0 where
  pub nodes_are : length s.nodes ≡ 16
  pub at : (a : Locality) → a.0 < 16 → Holds (counted (processes_in a) ls) (counted (tuples_in a) ls) (node_at s a)

-- ---- a line finds room after those of ls
unfoldable pub HasRoom : List Line → Line → Type 0
HasRoom ls (definition k p) = Unit {0}
HasRoom ls (process a p) = (a.0 < 16) × (counted (processes_in a) ls < 4)
HasRoom ls (tuple a t) = (a.0 < 16) × (counted (tuples_in a) ls < 16)
