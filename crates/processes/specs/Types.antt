-- The types of the crates below that the definitions of this crate speak of.
pub use Rattle.net.specs.declared.locality.Group.{Group}
pub use Rattle.net.specs.declared.instruction.Target.{Target}
pub use Rattle.net.specs.declared.instruction.Pattern.{Pattern}
pub use Rattle.net.specs.declared.instruction.TemplateField.{TemplateField}
pub use Rattle.net.specs.declared.instruction.Instruction.{Instruction}
pub use Rattle.readers.specs.declared.fault.Fault.{Fault}
pub use Rattle.fields.specs.declared.scope.Scope.{Scope}
pub use Rattle.lexemes.specs.declared.reader.TextReader.{TextReader}
pub use Rattle.terms.specs.declared.table.Kind.{Kind}
pub use Rattle.terms.specs.declared.table.Entry.{Entry}
