pub mod TextLines
pub mod TotalClaims
pub mod Types
