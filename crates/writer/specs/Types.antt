-- The types of the crates below that the definitions of this crate speak of.
pub use Rattle.net.specs.declared.node.Node.{Node}
pub use Rattle.net.specs.declared.network.Net.{Net}
