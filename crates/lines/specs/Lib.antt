pub mod Lines
pub mod Shown
pub mod Types
pub mod Words
