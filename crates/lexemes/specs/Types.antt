-- The types of the crates below that the definitions of this crate speak of.
pub use Rattle.readers.specs.declared.fault.Fault.{Fault}
