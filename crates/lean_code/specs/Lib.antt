pub mod Fields
pub mod Heads
pub mod Needs
pub mod Ranged
pub mod Types
