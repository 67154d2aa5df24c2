pub mod Progress
pub mod Reader
