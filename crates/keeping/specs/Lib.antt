pub mod Admission
pub mod AdmissionClaims
pub mod Keeping
pub mod KeepingPromise
pub mod Reaching
pub mod ReachingClaims
pub mod Types
pub mod Worklist
