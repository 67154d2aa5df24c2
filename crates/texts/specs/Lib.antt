pub mod TextClaims
pub mod Types
