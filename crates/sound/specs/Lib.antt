pub mod Soundness
pub mod Types
pub mod ZeroClaims
