pub mod NetSource
pub mod ReadBackClaims
pub mod Types
