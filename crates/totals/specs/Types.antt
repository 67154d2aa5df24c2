-- The types of the crates below that the claims of this crate speak of.
pub use Rattle.net.specs.declared.network.Net.{Net}
pub use Rattle.net.specs.declared.instruction.Action.{Action}
pub use Rattle.net.specs.declared.instruction.Instruction.{Instruction}
pub use Rattle.image.specs.declared.reader.Verdict.{Verdict}
pub use Rattle.notation.specs.declared.reading.Verdict.{Verdict as TextVerdict}
pub use Rattle.plans.specs.declared.answer.Answer.{Answer}
