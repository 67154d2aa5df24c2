pub mod OrderRule
pub mod Types
