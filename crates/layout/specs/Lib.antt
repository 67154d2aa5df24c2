pub mod Counts
pub mod Types
