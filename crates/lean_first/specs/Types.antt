-- The types of the crates below that the definitions of this crate speak of.
pub use Rattle.net.specs.declared.network.Net.{Net}
pub use Rattle.image.specs.declared.reader.Verdict.{Verdict}
pub use Rattle.notation.specs.declared.reading.Verdict.{Verdict as TextVerdict}
pub use Rattle.step.specs.declared.machine.Picked.{Picked}
