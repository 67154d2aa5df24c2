-- The types of the crates below that the definitions of this crate speak of.
pub use Rattle.net.specs.declared.locality.Locality.{Locality}
pub use Rattle.net.specs.declared.tuple.Item.{Item}
pub use Rattle.net.specs.declared.tuple.Tuple.{Tuple}
pub use Rattle.net.specs.declared.node.Node.{Node}
pub use Rattle.net.specs.declared.network.Net.{Net}
pub use Rattle.readers.specs.declared.fault.Fault.{Fault}
pub use Rattle.lines.specs.declared.shown.Parts.{Parts}
pub use Rattle.image.specs.declared.reader.Opened.{Opened}
pub use Rattle.image.specs.declared.reader.Verdict.{Verdict}
pub use Rattle.notation.specs.declared.reading.Opened.{Opened as TextOpened}
pub use Rattle.notation.specs.declared.reading.Verdict.{Verdict as TextVerdict}
pub use Rattle.plans.specs.declared.answer.Answer.{Answer}
