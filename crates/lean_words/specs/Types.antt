-- The types of the crate below that the definitions of this crate speak of.
pub use Rattle.net.specs.declared.locality.Locality.{Locality}
pub use Rattle.net.specs.declared.locality.Place.{Place}
pub use Rattle.net.specs.declared.tuple.Value.{Value}
pub use Rattle.net.specs.declared.tuple.Variable.{Variable}
pub use Rattle.net.specs.declared.tuple.Item.{Item}
pub use Rattle.net.specs.declared.tuple.Field.{Field}
pub use Rattle.net.specs.declared.tuple.Tuple.{Tuple}
pub use Rattle.net.specs.declared.policy.Rights.{Rights}
pub use Rattle.net.specs.declared.policy.Row.{Row}
pub use Rattle.net.specs.declared.process.Process.{Process}
