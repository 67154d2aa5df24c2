pub mod FormatClaims
pub mod OriginClaims
pub mod Types
