pub mod Additions
pub mod Answer
pub mod Plan
pub mod Request
pub mod Types
