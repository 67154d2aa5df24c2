pub mod Image
pub mod Progress
pub mod Types
