-- The lengths that the records of every running program have (`proofs/Lengths.antt`). Array types fix these lengths in
-- the code, lists do not: a claim about records that a program holds takes them from here.
use Rattle.std.specs.Prelude.{ℕ, ◌<◌, ◌≡◌, length}
use Rattle.net.specs.Records.{Locality, Place, Tuple, Row, Process, Node, Instruction, Net}
use Rattle.net.specs.Records.{row_at, process_at, tuple_at, node_at, instruction_at}

pub record ShapedTuple (t : Tuple) : Type 0 where
  pub fields_are : length t.fields ≡ 4

pub record ShapedProcess (p : Process) : Type 0 where
  pub variables_are : length p.variables ≡ 8

pub record ShapedRow (r : Row) : Type 0 where
  pub rights_are : length r.rights ≡ 16

pub record ShapedNode (x : Node) : Type 0 where
  pub rows_are : length x.rows ≡ 16
  pub processes_are : length x.processes ≡ 4
  pub tuples_are : length x.tuples ≡ 16
  pub each_row : (o : Locality) → o.0 < 16 → ShapedRow (row_at x o)
  pub each_process : (i : ℕ) → i < 4 → ShapedProcess (process_at x i)
  pub each_tuple : (i : ℕ) → i < 16 → ShapedTuple (tuple_at x i)

pub record ShapedInstruction (c : Instruction) : Type 0 where
  pub template_is : length c.template ≡ 4

pub record Shaped (s : Net) : Type 0 where
  pub nodes_are : length s.nodes ≡ 16
  pub code_is : length s.code ≡ 512
  pub each_node : (a : Locality) → a.0 < 16 → ShapedNode (node_at s a)
  pub each_instruction : (p : Place) → p.0 < 512 → ShapedInstruction (instruction_at s.code p)
