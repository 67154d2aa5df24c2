pub mod LeanBlind
pub mod LeanStep
pub mod Settled
pub mod Types
