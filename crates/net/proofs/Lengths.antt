-- Every net that a running program holds has the lengths of `specs/Shape.antt`: so says the relation that the logic has
-- between a value of a type and its machine values, type by type.
-- Assumes nothing.
use Prim.Native.Nat.{ℕ, zero, suc, ◌<◌}
use mathlib.Core.Path.{◌≡◌}
use mathlib.Core.List.{List, [], ◌∷◌}
use native.Mathlib.Nat.{not-suc-le-zero, le_of_suc-le-suc}
use native.Mathlib.Omega.{arith}
use lib.ListN.{length, get_or}
use mir.Val.{Val}
use denote.Array.{Array, each}
use denote.Laws.{Is}
use denote.Shadow.{shadow}
use denote.RattleType.{RattleType}
use Rattle.net.specs.contracts.instruction.Instruction as instruction
use Rattle.net.specs.contracts.instruction.TemplateField as template_field
use Rattle.net.specs.contracts.network.Net as net
use Rattle.net.specs.contracts.node.Node as node
use Rattle.net.specs.contracts.policy.Rights as rights
use Rattle.net.specs.contracts.policy.Row as row
use Rattle.net.specs.contracts.process.Process as process
use Rattle.net.specs.contracts.tuple.Field as tuple_field
use Rattle.net.specs.contracts.tuple.Tuple as tuple
use Rattle.net.specs.contracts.tuple.Variable as variable
use Rattle.net.specs.Records.{Tuple, Row, Process, Node, Instruction, Net, row_at, process_at, tuple_at, node_at, instruction_at}
use Rattle.net.specs.Shape.{ShapedTuple, ShapedRow, ShapedProcess, ShapedNode, ShapedInstruction, Shaped}

-- ---- an array of a declared type
module _ (R : RattleType) where
  pub long : (xs : List R.Denot) (n : ℕ) (vs : List Val) → Is (Array R n) xs vs → length xs ≡ n
  long xs n vs h = h.1.0.1

  module _ (P : R.Denot → Type 0) (known : (x : R.Denot) (vs : List Val) → Is R x vs → P x) where
    at :
        (xs : List R.Denot) (us : List Val) → shadow (each R.Denot R.own_val xs us)
        → (d : R.Denot) (i : ℕ) → i < length xs → P (get_or xs i d)
    at [] us h d i l = absurd (not-suc-le-zero l)
    at (x ∷ xs) [] h d i l = absurd h
    at (x ∷ xs) (u ∷ us) h d zero l = known x _ h.0
    at (x ∷ xs) (u ∷ us) h d (suc i) l = at xs us h.1 d i (le_of_suc-le-suc l)

    pub element :
        (xs : List R.Denot) (n : ℕ) (vs : List Val) → Is (Array R n) xs vs
        → (d : R.Denot) (i : ℕ) → i < n → P (get_or xs i d)
    element xs n vs h d i l = at xs h.0 h.1.1 d i (omega (arith, long xs n vs h))

-- ---- type by type
pub tuple_shaped : (t : Tuple) (vs : List Val) → Is tuple.the_row t vs → ShapedTuple t
tuple_shaped t vs h = record { fields_are = long tuple_field.the_row t.fields 4 _ h.1.1.1.0 }

pub process_shaped : (p : Process) (vs : List Val) → Is process.the_row p vs → ShapedProcess p
process_shaped p vs h = record { variables_are = long variable.the_row p.variables 8 _ h.1.1.1.1.1.0 }

pub instruction_shaped : (c : Instruction) (vs : List Val) → Is instruction.the_row c vs → ShapedInstruction c
instruction_shaped c vs h = record { template_is = long template_field.the_row c.template 4 _ h.1.1.1.1.0 }

pub row_shaped : (r : Row) (vs : List Val) → Is row.the_row r vs → ShapedRow r
row_shaped r vs h = record { rights_are = long rights.the_row r.rights 16 _ h.1.1.1.0 }

pub node_shaped : (x : Node) (vs : List Val) → Is node.the_row x vs → ShapedNode x
unfolding row_at process_at tuple_at
node_shaped x vs h =
    let rows-known = h.1.1.0 in
    let processes-known = h.1.1.1.0 in
    let tuples-known = h.1.1.1.1.1.0 in
    record {
      rows_are = long row.the_row x.rows 16 _ rows-known;
      processes_are = long process.the_row x.processes 4 _ processes-known;
      tuples_are = long tuple.the_row x.tuples 16 _ tuples-known;
      each_row = λ o. element row.the_row ShapedRow row_shaped x.rows 16 _ rows-known _ o.0;
      each_process = element process.the_row ShapedProcess process_shaped x.processes 4 _ processes-known _;
      each_tuple = element tuple.the_row ShapedTuple tuple_shaped x.tuples 16 _ tuples-known _;
    }

pub net_shaped : (s : Net) (vs : List Val) → Is net.the_row s vs → Shaped s
unfolding node_at instruction_at
net_shaped s vs h =
    let nodes-known = h.1.1.1.1.1.0 in
    let code-known = h.1.1.1.1.1.1.0 in
    record {
      nodes_are = long node.the_row s.nodes 16 _ nodes-known;
      code_is = long instruction.the_row s.code 512 _ code-known;
      each_node = λ a. element node.the_row ShapedNode node_shaped s.nodes 16 _ nodes-known _ a.0;
      each_instruction = λ p. element instruction.the_row ShapedInstruction instruction_shaped s.code 512 _ code-known _ p.0;
    }
