pub mod Progress
pub mod Reading
pub mod Room
pub mod Types
