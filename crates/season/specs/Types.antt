-- The types of the crates below that the definitions of this crate speak of.
pub use Rattle.net.specs.declared.locality.Locality.{Locality}
pub use Rattle.net.specs.declared.node.Node.{Node}
pub use Rattle.net.specs.declared.network.Net.{Net}
pub use Rattle.image.specs.declared.reader.Verdict.{Verdict}
pub use Rattle.run.specs.declared.run.Finish.{Finish}
pub use Rattle.run.specs.declared.run.Finished.{Finished}
