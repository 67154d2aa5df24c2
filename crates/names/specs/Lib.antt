pub mod Faults
pub mod Lookup
pub mod NameClaims
pub mod Names
