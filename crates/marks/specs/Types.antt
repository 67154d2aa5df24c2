-- The types of the crates below that the claims and proofs of this crate speak of.
pub use Rattle.net.specs.declared.locality.Locality.{Locality}
pub use Rattle.net.specs.declared.locality.Place.{Place}
pub use Rattle.net.specs.declared.tuple.Tuple.{Tuple}
pub use Rattle.net.specs.declared.process.Process.{Process}
pub use Rattle.net.specs.declared.node.Node.{Node}
pub use Rattle.net.specs.declared.instruction.Target.{Target}
pub use Rattle.net.specs.declared.instruction.Action.{Action}
pub use Rattle.net.specs.declared.network.Net.{Net}
pub use Rattle.image.specs.declared.reader.Verdict.{Verdict}
pub use Rattle.notation.specs.declared.reading.Verdict.{Verdict as TextVerdict}
