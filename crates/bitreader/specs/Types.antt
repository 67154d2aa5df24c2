-- The types of the crates below that the definitions of this crate speak of.
pub use Rattle.net.specs.declared.locality.Locality.{Locality}
pub use Rattle.net.specs.declared.locality.Place.{Place}
pub use Rattle.readers.specs.declared.fault.Fault.{Fault}
