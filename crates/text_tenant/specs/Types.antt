-- The types of the crates below that the claims of this crate speak of.
pub use Rattle.net.specs.declared.locality.Locality.{Locality}
pub use Rattle.net.specs.declared.network.Net.{Net}
pub use Rattle.image.specs.declared.reader.Opened.{Opened}
pub use Rattle.notation.specs.declared.reading.Verdict.{Verdict}
