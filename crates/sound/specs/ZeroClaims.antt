-- The zero records and the tests for zero (document 01, "One pick": "each record past a count or in a free slot is zero or
-- unset"; "Numbers for an image": "every record zero or unset").
use Rattle.std.specs.Prelude.{◌≡◌, ◌↔◌, true}
use Rattle.sound.specs.Types.{Variable, Field, Tuple, Rights, Row, Process, Node, TemplateField, Instruction}
use Rattle.net.specs.Records.{zero_field, zero_tuple, unset_variable, free_process, no_rights, zero_row, zero_node}
use Rattle.net.specs.Records.{zero_template_field, zero_instruction, with_action}
use Rattle.sound.specs.Soundness.{is_zero_item, is_zero_tuple, is_unset, is_free, is_none, is_zero_row, is_zero_node}
use Rattle.sound.specs.Soundness.{is_zero_pattern, no_template, is_zero_instruction}
use Rattle.net.specs.Shape.{ShapedTuple, ShapedRow, ShapedProcess, ShapedNode, ShapedInstruction}

-- of a record whose arrays have the lengths that their types fix, the test for zero is true exactly when the record is
-- the zero record of its kind
pub record ZeroIsZero : Type 0 where
  pub field : (f : Field) → (is_zero_item f.item ≡ true) ↔ (f ≡ zero_field)
  pub tuple : (t : Tuple) → ShapedTuple t → (is_zero_tuple t ≡ true) ↔ (t ≡ zero_tuple)
  pub variable : (x : Variable) → (is_unset x.value ≡ true) ↔ (x ≡ unset_variable)
  pub process : (p : Process) → ShapedProcess p → (is_free p ≡ true) ↔ (p ≡ free_process)
  pub rights : (r : Rights) → (is_none r ≡ true) ↔ (r ≡ no_rights)
  pub row : (r : Row) → ShapedRow r → (is_zero_row r ≡ true) ↔ (r ≡ zero_row)
  pub node : (x : Node) → ShapedNode x → (is_zero_node x ≡ true) ↔ (x ≡ zero_node)
  pub templateField : (f : TemplateField) → (is_zero_pattern f.pattern ≡ true) ↔ (f ≡ zero_template_field)
  -- an instruction without a template is its action and nothing else
  pub template : (c : Instruction) → ShapedInstruction c → (no_template c ≡ true) ↔ (c ≡ with_action zero_instruction c.action)
  pub instruction : (c : Instruction) → ShapedInstruction c → (is_zero_instruction c ≡ true) ↔ (c ≡ zero_instruction)
