-- Every net that a running program holds has its readings and addresses in the ranges of their words: so says the relation that the logic
-- has between a value of a type and its machine values, type by type.
-- Assumes nothing.
use Prim.Native.Nat.{ℕ, ◌<◌}
use mathlib.Core.Path.{◌≡◌}
use mathlib.Core.List.{List}
use native.Mathlib.Omega.{arith}
use lib.IntN.{ℤ}
use lib.Signed.{mag}
use mir.Val.{Val}
use denote.Laws.{Is}
use Rattle.net.specs.Records.{field_at, variable_at, pattern_at, process_at, tuple_at, node_at, instruction_at}
use Rattle.net.specs.declared.tuple.Item.{Item}
use Rattle.net.specs.declared.tuple.Value.{Value}
use Rattle.net.specs.declared.tuple.Field.{Field}
use Rattle.net.specs.declared.tuple.Variable.{Variable}
use Rattle.net.specs.declared.instruction.Pattern.{Pattern}
use Rattle.net.specs.declared.instruction.TemplateField.{TemplateField}
use Rattle.net.proofs.Lengths.{element}
use Rattle.net.specs.contracts.instruction.Instruction as instruction
use Rattle.net.specs.contracts.instruction.TemplateField as templateField
use Rattle.net.specs.contracts.instruction.Pattern as pattern
use Rattle.net.specs.contracts.node.Node as node
use Rattle.net.specs.contracts.process.Process as process
use Rattle.net.specs.contracts.tuple.Field as tupleField
use Rattle.net.specs.contracts.tuple.Item as item
use Rattle.net.specs.contracts.tuple.Tuple as tuple
use Rattle.net.specs.contracts.tuple.Value as value
use Rattle.net.specs.contracts.tuple.Variable as variable
use Rattle.lean_words.specs.Items.{reading_word, item_word, value_word}
use Rattle.lean_code.specs.Ranged.{RangedTemplate}
use Rattle.lean.specs.Types.{Tuple, Process, Node, Instruction}
use Rattle.lean.proofs.LoadTypes.{NetFits}

reading_low : (z : ℤ) → mag z < 2147483648 → reading_word z < 4294967553
unfolding reading_word
reading_low (ℤ.pos v) h = omega arith
reading_low (ℤ.negsuc v) h = omega arith

-- ---- items and values
item_low : (x : Item) (vs : List Val) → Is item.the_row x vs → item_word x < 4294967553
unfolding item_word
item_low (Item.Reading z) vs h = reading_low z h.1.1.1.1.0.1
item_low (Item.Address l) vs h = omega (arith, h.1.1.1.1.0.1.1.0.1)

value_low : (x : Value) (vs : List Val) → Is value.the_row x vs → value_word x < 4294967553
unfolding value_word
value_low Value.Unset vs h = omega arith
value_low (Value.Reading z) vs h = reading_low z h.1.1.1.1.0.1
value_low (Value.Address l) vs h = omega (arith, h.1.1.1.1.0.1.1.0.1)

Low : Pattern → Type 0
Low y = (z : ℤ) → y ≡ Pattern.Reading z → reading_word z < 4294967553

other : {A : Type 0} → ◌≡◌ {A = ℕ} 0 1 → A
other z = absurd (omega arith)

pattern_low : (y : Pattern) (vs : List Val) → Is pattern.the_row y vs → Low y
unfolding Low
pattern_low (Pattern.Reading x) vs h z e = let same : x ≡ z = cc in rw same at (reading_low x h.1.1.1.1.0.1)
pattern_low (Pattern.Address l) vs h z e = other (cc)
pattern_low Pattern.Own vs h z e = other (cc)
pattern_low (Pattern.Held v) vs h z e = other (cc)
pattern_low (Pattern.FormalReading v) vs h z e = other (cc)
pattern_low (Pattern.FormalAddress v) vs h z e = other (cc)

-- ---- their records
field_low : (f : Field) (vs : List Val) → Is tupleField.the_row f vs → item_word f.item < 4294967553
field_low f vs h = item_low f.item _ h.1.1.0

variable_low :
    (x : Variable) (vs : List Val) → Is variable.the_row x vs → value_word x.value < 4294967553
variable_low x vs h = value_low x.value _ h.1.1.0

template_low :
    (f : TemplateField) (vs : List Val) → Is templateField.the_row f vs → Low f.pattern
template_low f vs h = pattern_low f.pattern _ h.1.1.0

-- ---- and those that hold them
record LowTuple (t : Tuple) : Type 0 where
  items : (i : ℕ) → i < 4 → item_word (field_at t i) < 4294967553

record LowProcess (p : Process) : Type 0 where
  values : (v : ℕ) → v < 8 → value_word (variable_at p v) < 4294967553

record LowNode (x : Node) : Type 0 where
  processes : (k : ℕ) → k < 4 → LowProcess (process_at x k)
  tuples : (j : ℕ) → j < 16 → LowTuple (tuple_at x j)

tuple_low : (t : Tuple) (vs : List Val) → Is tuple.the_row t vs → LowTuple t
unfolding field_at
tuple_low t vs h = record {
  items = element tupleField.the_row (λ f. item_word f.item < 4294967553) field_low t.fields 4 _ h.1.1.1.0 _;
}

process_low : (p : Process) (vs : List Val) → Is process.the_row p vs → LowProcess p
unfolding variable_at
process_low p vs h = record {
  values =
      element variable.the_row (λ x. value_word x.value < 4294967553) variable_low p.variables 8 _ h.1.1.1.1.1.0 _;
}

node_low : (x : Node) (vs : List Val) → Is node.the_row x vs → LowNode x
unfolding process_at tuple_at
node_low x vs h = record {
  processes = element process.the_row LowProcess process_low x.processes 4 _ h.1.1.1.0 _;
  tuples = element tuple.the_row LowTuple tuple_low x.tuples 16 _ h.1.1.1.1.1.0 _;
}

instruction_low :
    (c : Instruction) (vs : List Val) → Is instruction.the_row c vs → RangedTemplate c
unfolding Low pattern_at
instruction_low c vs h = record {
  readings = λ i z l.
      element templateField.the_row (λ f. Low f.pattern) template_low c.template 4 _ h.1.1.1.1.0 _ i l z;
}

pub net_fits_law : NetFits
unfolding NetFits node_at instruction_at
net_fits_law s vs h =
    let nodes-known = h.1.1.1.1.1.0 in
    let code-known = h.1.1.1.1.1.1.0 in
    record {
      values_fit = λ a k v l m n. ((element node.the_row LowNode node_low s.nodes 16 _ nodes-known _ a l).processes k m).values v n;
      items_fit = λ a j i l m n. ((element node.the_row LowNode node_low s.nodes 16 _ nodes-known _ a l).tuples j m).items i n;
      readings_fit = λ q l. element instruction.the_row RangedTemplate instruction_low s.code 512 _ code-known _ q l;
    }
