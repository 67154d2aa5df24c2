-- The types of the crates below that the definitions of this crate speak of.
pub use Rattle.readers.specs.declared.fault.Fault.{Fault}
pub use Rattle.lexemes.specs.declared.reader.TextReader.{TextReader}
pub use Rattle.net.specs.declared.locality.Locality.{Locality}
pub use Rattle.net.specs.declared.policy.Rights.{Rights}
pub use Rattle.net.specs.declared.policy.Row.{Row}
pub use Rattle.net.specs.declared.node.Node.{Node}
pub use Rattle.net.specs.declared.network.Net.{Net}
