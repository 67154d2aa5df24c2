pub mod Longest
pub mod RegisterLaws
