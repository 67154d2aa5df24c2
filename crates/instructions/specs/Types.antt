-- The types of the crates below that the definitions of this crate speak of.
pub use Rattle.net.specs.declared.locality.Place.{Place}
pub use Rattle.net.specs.declared.instruction.Target.{Target}
pub use Rattle.net.specs.declared.instruction.Pattern.{Pattern}
pub use Rattle.net.specs.declared.instruction.TemplateField.{TemplateField}
pub use Rattle.net.specs.declared.instruction.Action.{Action}
pub use Rattle.net.specs.declared.instruction.Instruction.{Instruction}
pub use Rattle.readers.specs.declared.fault.Fault.{Fault}
pub use Rattle.bitreader.specs.declared.reader.BitReader.{BitReader}
