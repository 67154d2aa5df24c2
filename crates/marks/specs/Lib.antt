pub mod MarkClaims
pub mod Types
