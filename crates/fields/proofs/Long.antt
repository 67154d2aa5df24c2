-- The readers of fields, targets, sets and tuples do not go back, nor past the end of the text (`Long.antt` of the crate
-- `readers`). Assumes nothing.
use Prim.Native.Nat.{ℕ, zero, suc}
use mathlib.Core.Bool.{Bool}
use mathlib.Core.List.{List}
use Rattle.readers.specs.Reader.{Reader}
use Rattle.readers.proofs.Long.{Long, Any}
use Rattle.lexemes.proofs.Long.{goes_fail, onward}
use Rattle.fields.specs.Types.{Instruction, Tuple}
use Rattle.fields.specs.Fields.{address, variable, negative, positive, reading, at_address, own, held, fields}
use Rattle.fields.specs.Fields.{address_item, reading_item, item, tupleField, tuple}
use Rattle.fields.specs.Fields.{address_pattern, own_pattern, held_pattern, reading_pattern, fresh, formal_reading}
use Rattle.fields.specs.Fields.{formal_address, bound, formal, pattern, templateField, template}
use Rattle.fields.specs.Fields.{own_target, held_target, written_target, target}
use Rattle.fields.specs.Sets.{member_from, members, listed, group}

pub goes_address : (n : ℕ) → Long (address n) Any
unfolding address
goes_address n = search onward

pub goes_variable : Long variable Any
unfolding variable
goes_variable = search onward

goes_reading : Long reading Any
unfolding reading negative positive
goes_reading = search onward depth 8

pub goes_target : (n : ℕ) → Long (target n) Any
unfolding target own_target held_target written_target own held
goes_target n = search (onward, goes_address, goes_variable) depth 8

module _ {A : Type 0} (field : A → Reader A) (l : (a : A) → Long (field a) Any) where
  goes_fields : (k : ℕ) (a : A) → Long (fields k field a) Any
  unfolding fields
  goes_fields zero a = goes_fail 22
  goes_fields (suc k) a = search (onward, l, goes_fields k)

goes_item : (n : ℕ) (t : Tuple) → Long (tupleField n t) Any
unfolding tupleField item address_item reading_item at_address
goes_item n t = search (onward, goes_address, goes_reading) depth 8

pub goes_tuple : (n : ℕ) → Long (tuple n) Any
unfolding tuple
goes_tuple n = search (onward, goes_fields, goes_item)

goes_pattern : (formals : Bool) (n : ℕ) (c : Instruction) → Long (templateField formals n c) Any
unfolding templateField pattern formal bound formal_reading formal_address fresh address_pattern own_pattern held_pattern reading_pattern at_address own held
goes_pattern formals n c = search (onward, goes_address, goes_variable, goes_reading) depth 12

pub goes_template : (formals : Bool) (n : ℕ) → Long (template formals n) Any
unfolding template
goes_template formals n = search (onward, goes_fields, goes_pattern)

goes_members : (k n low : ℕ) (marks : List Bool) → Long (members k n low marks) Any
unfolding members member_from
goes_members zero n low marks = goes_fail 31
goes_members (suc k) n low marks = search (onward, goes_address, goes_members k) depth 8

pub goes_group : (n : ℕ) → Long (group n) Any
unfolding group listed
goes_group n = search (onward, goes_members) depth 8
