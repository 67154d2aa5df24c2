pub mod MarkClaims
pub mod Nodes
pub mod Starts
