pub mod Calls
pub mod Types
