pub mod Printed
pub mod SourceClaims
pub mod Types
pub mod WellFormed
