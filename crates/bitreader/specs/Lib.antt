pub mod BitReader
pub mod Ending
pub mod Fields
pub mod Progress
pub mod SameBits
pub mod Types
pub mod Window
