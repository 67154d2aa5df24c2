pub mod FaultClaims
pub mod Types
