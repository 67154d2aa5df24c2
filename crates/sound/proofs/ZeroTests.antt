-- Derived `==` with a zero record is the test for zero of its kind. Assumes nothing.
use Rattle.std.proofs.Common.{◌≡◌, refl, ap, ◌∙◌, sym, Bool, true, false, not, length, eqb, replicate, int_eq, ℤ, subst}
use Rattle.std.proofs.lemmas.Bool.Decides.{same_from_decides, Decides-int_eq}
use Rattle.net.proofs.ReadingLaws.{reading_equal, same_reading_law}
use mathlib.Core.Bool.{◌&&◌, beq}
use lib.Pointwise.{pointwise}
use Rattle.net.specs.contracts.policy.RightsPartialEq.TheImpl as rights
use Rattle.net.specs.contracts.policy.RowPartialEq.TheImpl as row
use Rattle.net.specs.contracts.tuple.FieldPartialEq.TheImpl as field
use Rattle.net.specs.contracts.tuple.TuplePartialEq.TheImpl as tuple
use Rattle.net.specs.contracts.tuple.VariablePartialEq.TheImpl as variable
use Rattle.net.specs.contracts.process.ProcessPartialEq.TheImpl as process
use Rattle.net.specs.contracts.instruction.TemplateFieldPartialEq.TheImpl as template_field
use Rattle.net.specs.contracts.instruction.ActionPartialEq.TheImpl as action
use Rattle.net.specs.contracts.instruction.InstructionPartialEq.TheImpl as instruction
use Rattle.net.specs.Choice.{choose, both, all}
use Rattle.net.specs.Readings.{same_reading}
use Rattle.net.specs.Records.{no_rights, zero_row, zero_field, zero_tuple, unset_variable, free_process, zero_template_field, zero_instruction}
use Rattle.net.specs.Records.{rights_at, field_at, variable_at, pattern_at}
use Rattle.net.proofs.AllOver.{all_alike, all_paired}
use Rattle.sound.specs.Types.{Rights, Row, Item, Field, Tuple, Value, Variable, Process, Pattern, TemplateField, Action, Instruction}
use Rattle.sound.specs.Soundness.{is_none, is_zero_row, same_bool, same_rights, same_row, is_zero_item, no_fields, is_zero_tuple, is_unset, all_unset, is_free}
use Rattle.sound.specs.Soundness.{is_zero_pattern, no_template, is_stop, is_zero_instruction}

-- ---- truth values
both_is : (a b : Bool) → both a b ≡ (a && b)
unfolding both
both_is true b = refl
both_is false b = refl

off_is : (a : Bool) → beq a false ≡ not a
off_is true = refl
off_is false = refl

same_is : (a b : Bool) → beq a b ≡ same_bool a b
unfolding same_bool choose
same_is true true = refl
same_is true false = refl
same_is false true = refl
same_is false false = refl

four : (a b c d : Bool) → (a && (b && (c && d))) ≡ both (both a b) (both c d)
unfolding both
four true true true d = refl
four true true false d = refl
four true false c d = refl
four false b c d = refl

last_first : (a b c : Bool) → (a && (b && c)) ≡ both c (both a b)
unfolding both
last_first true true true = refl
last_first true true false = refl
last_first true false true = refl
last_first true false false = refl
last_first false b true = refl
last_first false b false = refl

-- a reading against 0
reading_is : (x : ℤ) → int_eq x (ℤ.pos 0) ≡ same_reading x (ℤ.pos 0)
reading_is x =
    same_from_decides _ _ (Decides-int_eq x (ℤ.pos 0))
    (reading_equal x (ℤ.pos 0), λ e. subst (λ (y : ℤ). same_reading x y ≡ true) e (same_reading_law x))

-- ---- rights and rows
pub none_is : (r : Rights) → (rights.eq-value).it r no_rights ≡ is_none r
unfolding is_none no_rights
none_is r = simp off_is (four (not r.take) (not r.read) (not r.put) (not r.send))

pub zero_row_is : (r : Row) → length r.rights ≡ 16 → (row.eq-value).it r zero_row ≡ is_zero_row r
unfolding zero_row is_zero_row rights_at
zero_row_is r long =
    let each = all_alike (rights.eq-value).it no_rights _ is_none 16 r.rights long (λ i l. none_is _) in
    simp off_is (ap (λ (b : Bool). not r.create && b) each) ∙ sym (both_is _ _)

-- ---- tuples
zero_item_is : (x : Item) → (field.eq-value).it (record { item = x }) zero_field ≡ is_zero_item x
unfolding zero_field is_zero_item
zero_item_is (Item.Reading x) = reading_is x
zero_item_is (Item.Address l) = refl

pub zero_field_is : (f : Field) → (field.eq-value).it f zero_field ≡ is_zero_item f.item
zero_field_is f = zero_item_is f.item

pub zero_tuple_is : (t : Tuple) → length t.fields ≡ 4 → (tuple.eq-value).it t zero_tuple ≡ is_zero_tuple t
unfolding zero_tuple is_zero_tuple no_fields field_at
zero_tuple_is t long =
    let each = all_alike (field.eq-value).it zero_field _ (λ f. is_zero_item f.item) 4 t.fields long (λ i l. zero_field_is _) in
    ap (λ (b : Bool). eqb t.count 0 && (b && eqb t.mark.0 0)) each ∙ last_first (eqb t.count 0) _ (eqb t.mark.0 0)

-- ---- processes
unset_value_is : (x : Value) → (variable.eq-value).it (record { value = x }) unset_variable ≡ is_unset x
unfolding unset_variable is_unset
unset_value_is Value.Unset = refl
unset_value_is (Value.Reading x) = refl
unset_value_is (Value.Address l) = refl

pub unset_is : (x : Variable) → (variable.eq-value).it x unset_variable ≡ is_unset x.value
unset_is x = unset_value_is x.value

pub free_is : (p : Process) → length p.variables ≡ 8 → (process.eq-value).it p free_process ≡ is_free p
unfolding free_process is_free all_unset variable_at
free_is p long =
    let each = all_alike (variable.eq-value).it unset_variable _ (λ x. is_unset x.value) 8 p.variables long (λ i l. unset_is _) in
    simp (off_is, both_is) (ap (λ (b : Bool). not p.busy && (eqb p.at.0 0 && (eqb p.origin.0 0 && b))) each)

-- ---- instructions
zero_pattern_at : (x : Pattern) → (template_field.eq-value).it (record { pattern = x }) zero_template_field ≡ is_zero_pattern x
unfolding zero_template_field is_zero_pattern
zero_pattern_at (Pattern.Reading x) = reading_is x
zero_pattern_at (Pattern.Address l) = refl
zero_pattern_at Pattern.Own = refl
zero_pattern_at (Pattern.Held v) = refl
zero_pattern_at (Pattern.FormalReading v) = refl
zero_pattern_at (Pattern.FormalAddress v) = refl

pub zero_pattern_is : (f : TemplateField) → (template_field.eq-value).it f zero_template_field ≡ is_zero_pattern f.pattern
zero_pattern_is f = zero_pattern_at f.pattern

stop_is : (a : Action) → (action.eq-value).it a Action.Stop ≡ is_stop a
unfolding is_stop
stop_is Action.Stop = refl
stop_is (Action.Out t p) = refl
stop_is (Action.In t p) = refl
stop_is (Action.Read t p) = refl
stop_is (Action.Eval t sent p) = refl
stop_is (Action.New v p) = refl
stop_is (Action.Fork p q) = refl
stop_is (Action.OutAll g p) = refl

template_is :
    (c : Instruction) → length c.template ≡ 4
    → pointwise (template_field.eq-value).it c.template (replicate 4 zero_template_field)
    ≡ all 4 (λ i. is_zero_pattern (pattern_at c i))
unfolding pattern_at
template_is c long = all_alike (template_field.eq-value).it zero_template_field _ (λ f. is_zero_pattern f.pattern) 4 c.template long (λ i l. zero_pattern_is _)

pub no_template_is :
    (c : Instruction) → length c.template ≡ 4
    → (eqb c.count 0 && pointwise (template_field.eq-value).it c.template (replicate 4 zero_template_field)) ≡ no_template c
unfolding no_template
no_template_is c long = ap (λ (b : Bool). eqb c.count 0 && b) (template_is c long) ∙ sym (both_is _ _)

pub zero_instruction_is :
    (c : Instruction) → length c.template ≡ 4 → (instruction.eq-value).it c zero_instruction ≡ is_zero_instruction c
unfolding zero_instruction is_zero_instruction
zero_instruction_is c long =
    ap (λ (b : Bool). b && (eqb c.count 0 && pointwise (template_field.eq-value).it c.template (replicate 4 zero_template_field)))
    (stop_is c.action) ∙
    ap (λ (b : Bool). is_stop c.action && b) (no_template_is c long) ∙ sym (both_is _ _)

-- ---- rows compared
same_rights_is : (r q : Rights) → (rights.eq-value).it r q ≡ same_rights r q
unfolding same_rights
same_rights_is r q =
    simp same_is (four (same_bool r.take q.take) (same_bool r.read q.read) (same_bool r.put q.put) (same_bool r.send q.send))

pub same_row_is : (r q : Row) → length r.rights ≡ 16 → length q.rights ≡ 16 → (row.eq-value).it r q ≡ same_row r q
unfolding same_row rights_at
same_row_is r q long other =
    ap (λ (b : Bool). b && pointwise (rights.eq-value).it r.rights q.rights) (same_is r.create q.create) ∙
    ap (λ (b : Bool). same_bool r.create q.create && b)
    (all_paired (rights.eq-value).it _ _ same_rights same_rights_is 16 r.rights q.rights long other) ∙
    sym (both_is _ _)
