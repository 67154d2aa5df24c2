pub mod OriginRows
pub mod Policies
pub mod Progress
pub mod Rows
pub mod Types
