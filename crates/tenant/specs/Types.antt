-- The types of the crates below that the definitions of this crate speak of.
pub use Rattle.net.specs.declared.locality.Locality.{Locality}
pub use Rattle.net.specs.declared.locality.Place.{Place}
pub use Rattle.net.specs.declared.tuple.Tuple.{Tuple}
pub use Rattle.net.specs.declared.policy.Rights.{Rights}
pub use Rattle.net.specs.declared.policy.Row.{Row}
pub use Rattle.net.specs.declared.process.Process.{Process}
pub use Rattle.net.specs.declared.node.Node.{Node}
pub use Rattle.net.specs.declared.instruction.Action.{Action}
pub use Rattle.net.specs.declared.instruction.Instruction.{Instruction}
pub use Rattle.net.specs.declared.network.Net.{Net}
pub use Rattle.matching.specs.declared.template.Evaluated.{Evaluated}
pub use Rattle.image.specs.declared.reader.Verdict.{Verdict}
pub use Rattle.plans.specs.declared.request.Request.{Request}
pub use Rattle.plans.specs.declared.answer.Answer.{Answer}
pub use Rattle.step.specs.declared.machine.Picked.{Picked}
