pub mod Fields
pub mod Sets
pub mod Types
