pub mod Loading
pub mod Numbering
pub mod Table
pub mod Terms
pub mod Types
