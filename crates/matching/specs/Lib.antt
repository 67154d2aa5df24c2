pub mod Fitting
pub mod Matching
pub mod MatchingPromise
pub mod Types
