-- What stands past the end of an array in the checker's goals, of each record that an array of a net holds.
-- Assumes nothing.
use mathlib.Core.Bool.{false}
use mathlib.Core.List.{[]}
use lib.IntN.{ℤ}
use Rattle.net.specs.Records.{Value, Variable, Item, Field, Tuple, Rights, Row, Process, Node}
use Rattle.net.specs.Records.{Pattern, TemplateField, Action, Instruction}

abbrev pub past_field : Field
past_field = record { item = Item.Reading (ℤ.pos 0) }

abbrev pub past_tuple : Tuple
past_tuple = record { count = 0; fields = []; mark = record { 0 = 0 } }

abbrev pub past_variable : Variable
past_variable = record { value = Value.Unset }

abbrev pub past_process : Process
past_process = record { busy = false; at = record { 0 = 0 }; origin = record { 0 = 0 }; variables = [] }

abbrev pub past_rights : Rights
past_rights = record { take = false; read = false; put = false; send = false }

abbrev pub past_row : Row
past_row = record { create = false; rights = [] }

abbrev pub past_node : Node
past_node = record { rows = []; processes = []; stored = 0; tuples = [] }

abbrev pub past_template : TemplateField
past_template = record { pattern = Pattern.Reading (ℤ.pos 0) }

abbrev pub past_instruction : Instruction
past_instruction = record { action = Action.Stop; count = 0; template = [] }
