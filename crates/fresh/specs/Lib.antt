pub mod Fresh
pub mod Types
