-- The types of the crates below that the definitions of this crate speak of.
pub use Rattle.net.specs.declared.locality.Locality.{Locality}
pub use Rattle.net.specs.declared.tuple.Value.{Value}
pub use Rattle.net.specs.declared.tuple.Variable.{Variable}
pub use Rattle.net.specs.declared.tuple.Item.{Item}
pub use Rattle.net.specs.declared.tuple.Tuple.{Tuple}
pub use Rattle.net.specs.declared.process.Process.{Process}
pub use Rattle.net.specs.declared.node.Node.{Node}
pub use Rattle.net.specs.declared.instruction.Pattern.{Pattern}
pub use Rattle.net.specs.declared.instruction.Instruction.{Instruction}
