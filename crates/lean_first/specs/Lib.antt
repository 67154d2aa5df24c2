pub mod LeanFirst
pub mod Types
