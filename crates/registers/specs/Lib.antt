pub mod Calls
pub mod Longest
pub mod Register
pub mod Types
