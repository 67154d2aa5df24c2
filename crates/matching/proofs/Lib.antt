pub mod Fitting
pub mod MatchingPromise
