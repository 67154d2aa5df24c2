-- Describes the code, and is no part of what a reader has to believe: the counts that a net's arrays can hold, which a
-- sound net has (document 01, "The net").
use Rattle.std.specs.Prelude.{ℕ, ◌<◌, ◌≤◌}
use Rattle.net.specs.Records.{tuple_at, node_at, instruction_at}
use Rattle.layout.specs.Types.{Locality, Place, Node, Net}

-- a node's counts are within its arrays
pub record NodeCounts (x : Node) : Type 0 where
  pub stored_few : x.stored ≤ 16
  pub fields_few : (i : ℕ) → i < 16 → (tuple_at x i).count ≤ 4

-- a net's counts are
pub record Counts (s : Net) : Type 0 where
  pub addresses_few : s.addresses ≤ 16
  pub length_few : s.length ≤ 512
  pub nodes_few : (a : Locality) → a.0 < 16 → NodeCounts (node_at s a)
  pub code_few : (p : Place) → p.0 < 512 → (instruction_at s.code p).count ≤ 4
