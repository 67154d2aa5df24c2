pub mod Covering
pub mod LeanBlind
pub mod LeanKept
pub mod LeanStep
pub mod Settled
pub mod Within
