-- Every net that a running program holds fits (`net_fits` of `specs/Fresh.antt`): its arrays have their lengths, its
-- readings 32 bits and its sets 16. So says the relation that the logic has between a value of a type and its machine values, type by
-- type. Assumes nothing.
use Prim.Native.Nat.{◌<◌}
use mathlib.Core.Path.{◌≡◌, refl}
use mathlib.Core.Bool.{true}
use mathlib.Core.List.{List}
use lib.IntN.{ℤ}
use lib.Signed.{mag}
use borrow.Author.Tests.{eq-eqb, lt-ltb}
use mir.Val.{Val}
use denote.Laws.{Is}
use Rattle.net.proofs.Laws.{both_i, all_i}
use Rattle.net.proofs.Lengths.{long, element}
use Rattle.net.specs.contracts.instruction.Action as action
use Rattle.net.specs.contracts.instruction.Instruction as instruction
use Rattle.net.specs.contracts.instruction.TemplateField as template_field
use Rattle.net.specs.contracts.instruction.Pattern as pattern
use Rattle.net.specs.contracts.network.Net as net
use Rattle.net.specs.contracts.node.Node as node
use Rattle.net.specs.contracts.policy.Rights as rights
use Rattle.net.specs.contracts.policy.Row as policy
use Rattle.net.specs.contracts.process.Process as process
use Rattle.net.specs.contracts.tuple.Field as tuple_field
use Rattle.net.specs.contracts.tuple.Item as item
use Rattle.net.specs.contracts.tuple.Tuple as tuple
use Rattle.net.specs.contracts.tuple.Variable as variable
use Rattle.net.specs.Records.{field_at, pattern_at, row_at, process_at, tuple_at, node_at, instruction_at}
use Rattle.fresh.specs.Types.{Item, Field, Tuple, Row, Process, Node, Pattern, TemplateField, Action, Instruction, Net}
use Rattle.fresh.specs.Fresh.{reading_fits, item_fits, pattern_fits, tuple_fits, process_fits, row_fits, node_fits, action_fits}
use Rattle.fresh.specs.Fresh.{instruction_fits, net_fits}

reading_fits_law : (z : ℤ) → mag z < 2147483648 → reading_fits z ≡ true
unfolding reading_fits
reading_fits_law (ℤ.pos v) h = lt-ltb v 2147483648 h
reading_fits_law (ℤ.negsuc v) h = lt-ltb v 2147483648 h

item_fits_law : (x : Item) (vs : List Val) → Is item.the_row x vs → item_fits x ≡ true
unfolding item_fits
item_fits_law (Item.Reading z) vs h = reading_fits_law z h.1.1.1.1.0.1
item_fits_law (Item.Address l) vs h = refl

pattern_fits_law :
    (x : Pattern) (vs : List Val) → Is pattern.the_row x vs → pattern_fits x ≡ true
unfolding pattern_fits
pattern_fits_law (Pattern.Reading z) vs h = reading_fits_law z h.1.1.1.1.0.1
pattern_fits_law (Pattern.Address l) vs h = refl
pattern_fits_law Pattern.Own vs h = refl
pattern_fits_law (Pattern.Held v) vs h = refl
pattern_fits_law (Pattern.FormalReading v) vs h = refl
pattern_fits_law (Pattern.FormalAddress v) vs h = refl

field_fits :
    (f : Field) (vs : List Val) → Is tuple_field.the_row f vs
    → item_fits f.item ≡ true
field_fits f vs h = item_fits_law f.item _ h.1.1.0

template_field_fits :
    (f : TemplateField) (vs : List Val) → Is template_field.the_row f vs
    → pattern_fits f.pattern ≡ true
template_field_fits f vs h = pattern_fits_law f.pattern _ h.1.1.0

tuple_fits_law : (t : Tuple) (vs : List Val) → Is tuple.the_row t vs → tuple_fits t ≡ true
unfolding tuple_fits field_at
tuple_fits_law t vs h =
    let known = h.1.1.1.0 in
    both_i _ _ (eq-eqb _ _ (long tuple_field.the_row t.fields 4 _ known))
    (all_i 4 _ (element tuple_field.the_row (λ f. item_fits f.item ≡ true) field_fits t.fields 4 _ known _))

process_fits_law :
    (p : Process) (vs : List Val) → Is process.the_row p vs → process_fits p ≡ true
unfolding process_fits
process_fits_law p vs h = eq-eqb _ _ (long variable.the_row p.variables 8 _ h.1.1.1.1.1.0)

row_fits_law : (r : Row) (vs : List Val) → Is policy.the_row r vs → row_fits r ≡ true
unfolding row_fits
row_fits_law r vs h = eq-eqb _ _ (long rights.the_row r.rights 16 _ h.1.1.1.0)

action_fits_law :
    (x : Action) (vs : List Val) → Is action.the_row x vs → action_fits x ≡ true
unfolding action_fits
action_fits_law Action.Stop vs h = refl
action_fits_law (Action.Out t p) vs h = refl
action_fits_law (Action.In t p) vs h = refl
action_fits_law (Action.Read t p) vs h = refl
action_fits_law (Action.Eval t sent p) vs h = refl
action_fits_law (Action.New v p) vs h = refl
action_fits_law (Action.Fork p q) vs h = refl
action_fits_law (Action.OutAll g p) vs h = lt-ltb g.0 65536 h.1.1.1.1.0.1.1.0.1

instruction_fits_law :
    (c : Instruction) (vs : List Val) → Is instruction.the_row c vs
    → instruction_fits c ≡ true
unfolding instruction_fits pattern_at
instruction_fits_law c vs h =
    let known = h.1.1.1.1.0 in
    both_i _ _ (action_fits_law c.action _ h.1.1.0)
    (both_i _ _ (eq-eqb _ _ (long template_field.the_row c.template 4 _ known))
    (all_i 4 _
    (element template_field.the_row (λ f. pattern_fits f.pattern ≡ true) template_field_fits c.template 4 _ known _)))

node_fits_law : (x : Node) (vs : List Val) → Is node.the_row x vs → node_fits x ≡ true
unfolding node_fits row_at process_at tuple_at
node_fits_law x vs h =
    let rows-known = h.1.1.0 in
    let processes-known = h.1.1.1.0 in
    let tuples-known = h.1.1.1.1.1.0 in
    both_i _ _
    (both_i _ _ (eq-eqb _ _ (long policy.the_row x.rows 16 _ rows-known))
    (all_i 16 _ (element policy.the_row (λ r. row_fits r ≡ true) row_fits_law x.rows 16 _ rows-known _)))
    (both_i _ _
    (both_i _ _ (eq-eqb _ _ (long process.the_row x.processes 4 _ processes-known))
    (all_i 4 _ (element process.the_row (λ p. process_fits p ≡ true) process_fits_law x.processes 4 _ processes-known _)))
    (both_i _ _ (eq-eqb _ _ (long tuple.the_row x.tuples 16 _ tuples-known))
    (all_i 16 _ (element tuple.the_row (λ t. tuple_fits t ≡ true) tuple_fits_law x.tuples 16 _ tuples-known _))))

net_fits_law : (s : Net) (vs : List Val) → Is net.the_row s vs → net_fits s ≡ true
unfolding net_fits node_at instruction_at
net_fits_law s vs h =
    let nodes-known = h.1.1.1.1.1.0 in
    let code-known = h.1.1.1.1.1.1.0 in
    both_i _ _
    (both_i _ _ (eq-eqb _ _ (long node.the_row s.nodes 16 _ nodes-known))
    (all_i 16 _ (element node.the_row (λ x. node_fits x ≡ true) node_fits_law s.nodes 16 _ nodes-known _)))
    (both_i _ _ (eq-eqb _ _ (long instruction.the_row s.code 512 _ code-known))
    (all_i 512 _
    (element instruction.the_row (λ c. instruction_fits c ≡ true) instruction_fits_law s.code 512 _ code-known _)))

-- a net that is a parameter
pub held_fits : (s : Net) (vs : List Val) → Is net.the_row s vs → net_fits s ≡ true
held_fits s vs h = net_fits_law s vs h
