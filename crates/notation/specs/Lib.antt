pub mod Judging
pub mod LineProgress
pub mod Lines
pub mod Scopes
pub mod Text
pub mod Types
