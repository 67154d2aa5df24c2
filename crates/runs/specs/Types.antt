-- The types of the crates below that the definitions of this crate speak of.
pub use Rattle.net.specs.declared.network.Net.{Net}
pub use Rattle.readers.specs.declared.fault.Fault.{Fault}
pub use Rattle.image.specs.declared.reader.Verdict.{Verdict}
