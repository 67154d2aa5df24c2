pub mod ImageOf
pub mod Types
pub mod WrittenClaims
