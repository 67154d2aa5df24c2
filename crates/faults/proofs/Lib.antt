pub mod FaultClaims
