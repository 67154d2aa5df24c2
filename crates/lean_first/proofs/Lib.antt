pub mod LeanFirst
