-- The claim of `specs/ZeroClaims.antt`: a record that passes the test for zero is the zero record (`zero_is_zero`), and the
-- zero record passes it (`tuple_passes` and its like). Assumes nothing.
use Prim.Native.Nat.{ℕ, ◌<◌}
use mathlib.Core.Path.{◌≡◌, refl, sym, ap, subst, ◌∙◌}
use mathlib.Core.Logic.{◌↔◌}
use mathlib.Core.Bool.{Bool, true, not}
use mathlib.Core.List.{List}
use native.Mathlib.Omega.{arith}
use lib.Dec.{eqb}
use lib.IntN.{ℤ}
use lib.ListN.{length, get_or, replicate, length-replicate, get_or-replicate}
use lib.Seq.{ext_get_or}
use borrow.Author.Tests.{eqb-true, not-true}
use Rattle.net.specs.Choice.{both, all}
use Rattle.sound.specs.Types.{Value, Variable, Item, Field, Tuple, Rights, Row, Process, Node}
use Rattle.sound.specs.Types.{Pattern, TemplateField, Action, Instruction}
use Rattle.net.specs.Records.{zero_field, zero_tuple, unset_variable, free_process, no_rights, zero_row, zero_node}
use Rattle.net.specs.Records.{zero_template_field, zero_instruction, with_action}
use Rattle.net.specs.Records.{field_at, variable_at, rights_at, row_at, process_at, tuple_at, pattern_at, address_of, alike}
use Rattle.net.specs.Readings.{same_reading}
use Rattle.sound.specs.Soundness.{is_zero_item, no_fields, is_zero_tuple, is_unset, all_unset, is_free, is_none, is_zero_row, no_rows, is_zero_node}
use Rattle.sound.specs.Soundness.{is_zero_pattern, no_template, is_stop, is_zero_instruction}
use Rattle.net.specs.Shape.{ShapedTuple, ShapedRow, ShapedProcess, ShapedNode, ShapedInstruction}
use Rattle.sound.specs.ZeroClaims.{ZeroIsZero}
use Rattle.net.proofs.Laws.{both_i, both_l, both_r, all_i, all_e}
use Rattle.net.proofs.ReadingLaws.{never, reading_equal}

-- ---- what every kind of record has in common

-- an array of zero records
pub zeros : {A : Type 0} (z d : A) (size : ℕ) (xs : List A) → length xs ≡ size → ((j : ℕ) → j < size → get_or xs j d ≡ z)
    → xs ≡ replicate size z
zeros z d size xs e f =
    ext_get_or d xs (replicate size z) (e ∙ sym (length-replicate size z))
    (λ j h. f j (omega arith) ∙ sym (get_or-replicate size j z d (omega arith)))

-- a test that the zero record passes, and no other record
exactly : {A : Type 0} (test : A → Bool) (z : A) → test z ≡ true → (x : A) → (test x ≡ true → x ≡ z) → (test x ≡ true) ↔ (x ≡ z)
exactly test z passes x f = (f, λ e. subst (λ y. test y ≡ true) (sym e) passes)

-- ---- tuples
zero_item : (x : Item) → is_zero_item x ≡ true → x ≡ Item.Reading (ℤ.pos 0)
unfolding is_zero_item
zero_item (Item.Reading x) h = ap Item.Reading (reading_equal x (ℤ.pos 0) h)
zero_item (Item.Address l) h = never h

field_passes : is_zero_item zero_field.item ≡ true
unfolding is_zero_item zero_field same_reading
field_passes = refl

zero_field_law : (f : Field) → is_zero_item f.item ≡ true → f ≡ zero_field
unfolding zero_field
zero_field_law f h = ap (λ (x : Item). record { item = x }) (zero_item f.item h)

pub tuple_passes : is_zero_tuple zero_tuple ≡ true
unfolding is_zero_tuple no_fields zero_tuple both all field_at is_zero_item zero_field same_reading
tuple_passes = refl

zero_tuple_law : (t : Tuple) → ShapedTuple t → is_zero_tuple t ≡ true → t ≡ zero_tuple
unfolding is_zero_tuple no_fields zero_tuple field_at
zero_tuple_law t shape h = let g = both_r (eqb t.mark.0 0) _ h in λ d. record {
  count = eqb-true t.count 0 (both_l _ _ g) d;
  fields = zeros zero_field _ 4 t.fields shape.fields_are
      (λ j l. zero_field_law _ (all_e 4 _ (both_r (eqb t.count 0) _ g) j l)) d;
  mark = record { 0 = eqb-true t.mark.0 0 (both_l _ _ h) d };
}

-- ---- processes
unset_value : (v : Value) → is_unset v ≡ true → v ≡ Value.Unset
unfolding is_unset
unset_value Value.Unset h = refl
unset_value (Value.Reading x) h = never h
unset_value (Value.Address l) h = never h

variable_passes : is_unset unset_variable.value ≡ true
unfolding is_unset unset_variable
variable_passes = refl

unset_variable_law : (x : Variable) → is_unset x.value ≡ true → x ≡ unset_variable
unfolding unset_variable
unset_variable_law x h = ap (λ (v : Value). record { value = v }) (unset_value x.value h)

pub all_unset_law : (p : Process) → ShapedProcess p → all_unset p ≡ true → p.variables ≡ replicate 8 unset_variable
unfolding all_unset variable_at
all_unset_law p shape h =
    zeros unset_variable _ 8 p.variables shape.variables_are (λ v l. unset_variable_law _ (all_e 8 _ h v l))

pub process_passes : is_free free_process ≡ true
unfolding is_free all_unset free_process both all variable_at is_unset unset_variable
process_passes = refl

free_process_law : (p : Process) → ShapedProcess p → is_free p ≡ true → p ≡ free_process
unfolding is_free free_process
free_process_law p shape h =
    let g = both_r (not p.busy) _ h in
    let f = both_r (eqb p.at.0 0) _ g in
    λ d. record {
      busy = not-true p.busy (both_l _ _ h) d;
      at = record { 0 = eqb-true p.at.0 0 (both_l _ _ g) d };
      origin = record { 0 = eqb-true p.origin.0 0 (both_l _ _ f) d };
      variables = all_unset_law p shape (both_r (eqb p.origin.0 0) _ f) d;
    }

-- ---- rows
rights_pass : is_none no_rights ≡ true
unfolding is_none no_rights both
rights_pass = refl

no_rights_law : (r : Rights) → is_none r ≡ true → r ≡ no_rights
unfolding is_none no_rights
no_rights_law r h =
    let f = both_l (both (not r.take) (not r.read)) _ h in
    let g = both_r (both (not r.take) (not r.read)) _ h in
    λ d. record {
      take = not-true r.take (both_l _ _ f) d;
      read = not-true r.read (both_r (not r.take) _ f) d;
      put = not-true r.put (both_l _ _ g) d;
      send = not-true r.send (both_r (not r.put) _ g) d;
    }

pub row_passes : is_zero_row zero_row ≡ true
unfolding is_zero_row zero_row both all rights_at is_none no_rights
row_passes = refl

zero_row_law : (r : Row) → ShapedRow r → is_zero_row r ≡ true → r ≡ zero_row
unfolding is_zero_row zero_row rights_at
zero_row_law r shape h = λ d. record {
  create = not-true r.create (both_l _ _ h) d;
  rights = zeros no_rights _ 16 r.rights shape.rights_are (λ l i. no_rights_law _ (all_e 16 _ (both_r (not r.create) _ h) l i)) d;
}

-- ---- nodes
pub node_passes : is_zero_node zero_node ≡ true
unfolding is_zero_node no_rows zero_node alike row_at process_at tuple_at
node_passes =
    both_i _ _ (all_i 16 _ (λ j h. rw get_or-replicate row_passes))
    (both_i _ _ (all_i 4 _ (λ j h. rw get_or-replicate process_passes))
    (both_i _ _ refl (all_i 16 _ (λ j h. rw get_or-replicate tuple_passes))))

zero_node_law : (x : Node) → ShapedNode x → is_zero_node x ≡ true → x ≡ zero_node
unfolding is_zero_node no_rows zero_node alike row_at process_at tuple_at
zero_node_law x shape h =
    let g = both_r (no_rows x) _ h in
    let k = both_r (all 4 (λ i. is_free (process_at x i))) _ g in
    λ d. record {
      rows = zeros zero_row _ 16 x.rows shape.rows_are
          (λ o l. zero_row_law _ (shape.each_row (address_of o) l) (all_e 16 _ (both_l _ _ h) o l)) d;
      processes = zeros free_process _ 4 x.processes shape.processes_are
          (λ i l. free_process_law _ (shape.each_process i l) (all_e 4 _ (both_l _ _ g) i l)) d;
      stored = eqb-true x.stored 0 (both_l _ _ k) d;
      tuples = zeros zero_tuple _ 16 x.tuples shape.tuples_are
          (λ i l. zero_tuple_law _ (shape.each_tuple i l) (all_e 16 _ (both_r (eqb x.stored 0) _ k) i l)) d;
    }

-- ---- instructions
zero_pattern_law : (x : Pattern) → is_zero_pattern x ≡ true → x ≡ Pattern.Reading (ℤ.pos 0)
unfolding is_zero_pattern
zero_pattern_law (Pattern.Reading x) h = ap Pattern.Reading (reading_equal x (ℤ.pos 0) h)
zero_pattern_law (Pattern.Address l) h = never h
zero_pattern_law Pattern.Own h = never h
zero_pattern_law (Pattern.Held v) h = never h
zero_pattern_law (Pattern.FormalReading v) h = never h
zero_pattern_law (Pattern.FormalAddress v) h = never h

template_field_passes : is_zero_pattern zero_template_field.pattern ≡ true
unfolding is_zero_pattern zero_template_field same_reading
template_field_passes = refl

zero_template_field_law : (f : TemplateField) → is_zero_pattern f.pattern ≡ true → f ≡ zero_template_field
unfolding zero_template_field
zero_template_field_law f h = ap (λ (x : Pattern). record { pattern = x }) (zero_pattern_law f.pattern h)

pub no_template_passes : (a : Action) → no_template (with_action zero_instruction a) ≡ true
unfolding no_template with_action zero_instruction both all pattern_at is_zero_pattern zero_template_field same_reading
no_template_passes a = refl

no_template_law : (c : Instruction) → ShapedInstruction c → no_template c ≡ true → c ≡ with_action zero_instruction c.action
unfolding no_template with_action zero_instruction pattern_at
no_template_law c shape h = λ d. record {
  action = c.action;
  count = eqb-true c.count 0 (both_l _ _ h) d;
  template = zeros zero_template_field _ 4 c.template shape.template_is
      (λ i l. zero_template_field_law _ (all_e 4 _ (both_r (eqb c.count 0) _ h) i l)) d;
}

stop_is : (a : Action) → is_stop a ≡ true → a ≡ Action.Stop
unfolding is_stop
stop_is Action.Stop h = refl
stop_is (Action.Out t p) h = never h
stop_is (Action.In t p) h = never h
stop_is (Action.Read t p) h = never h
stop_is (Action.Eval t sent p) h = never h
stop_is (Action.New v p) h = never h
stop_is (Action.Fork p q) h = never h
stop_is (Action.OutAll g p) h = never h

pub instruction_passes : is_zero_instruction zero_instruction ≡ true
unfolding is_zero_instruction is_stop zero_instruction with_action
instruction_passes = both_i _ _ refl (no_template_passes Action.Stop)

zero_instruction_law : (c : Instruction) → ShapedInstruction c → is_zero_instruction c ≡ true → c ≡ zero_instruction
unfolding is_zero_instruction zero_instruction with_action
zero_instruction_law c shape h =
    no_template_law c shape (both_r (is_stop c.action) _ h)
    ∙ ap (with_action zero_instruction) (stop_is c.action (both_l _ _ h))

pub zero_is_zero : ZeroIsZero
zero_is_zero = record {
  field = λ f. exactly (λ x. is_zero_item x.item) zero_field field_passes f (zero_field_law f);
  tuple = λ t shape. exactly is_zero_tuple zero_tuple tuple_passes t (zero_tuple_law t shape);
  variable = λ x. exactly (λ y. is_unset y.value) unset_variable variable_passes x (unset_variable_law x);
  process = λ p shape. exactly is_free free_process process_passes p (free_process_law p shape);
  rights = λ r. exactly is_none no_rights rights_pass r (no_rights_law r);
  row = λ r shape. exactly is_zero_row zero_row row_passes r (zero_row_law r shape);
  node = λ x shape. exactly is_zero_node zero_node node_passes x (zero_node_law x shape);
  templateField = λ f.
      exactly (λ x. is_zero_pattern x.pattern) zero_template_field template_field_passes f (zero_template_field_law f);
  template = λ c shape. exactly no_template _ (no_template_passes c.action) c (no_template_law c shape);
  instruction = λ c shape. exactly is_zero_instruction zero_instruction instruction_passes c (zero_instruction_law c shape);
}
