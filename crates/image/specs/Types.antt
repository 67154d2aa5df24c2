-- The types of the crates below that the definitions of this crate speak of.
pub use Rattle.net.specs.declared.locality.Locality.{Locality}
pub use Rattle.net.specs.declared.locality.Place.{Place}
pub use Rattle.net.specs.declared.tuple.Item.{Item}
pub use Rattle.net.specs.declared.tuple.Field.{Field}
pub use Rattle.net.specs.declared.tuple.Tuple.{Tuple}
pub use Rattle.net.specs.declared.policy.Rights.{Rights}
pub use Rattle.net.specs.declared.policy.Row.{Row}
pub use Rattle.net.specs.declared.process.Process.{Process}
pub use Rattle.net.specs.declared.node.Node.{Node}
pub use Rattle.net.specs.declared.instruction.Target.{Target}
pub use Rattle.net.specs.declared.instruction.Pattern.{Pattern}
pub use Rattle.net.specs.declared.instruction.TemplateField.{TemplateField}
pub use Rattle.net.specs.declared.instruction.Action.{Action}
pub use Rattle.net.specs.declared.instruction.Instruction.{Instruction}
pub use Rattle.net.specs.declared.network.Net.{Net}
pub use Rattle.readers.specs.declared.fault.Fault.{Fault}
pub use Rattle.bitreader.specs.declared.reader.BitReader.{BitReader}
