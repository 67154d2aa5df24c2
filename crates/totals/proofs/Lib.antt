pub mod Balance
pub mod Counting
pub mod TotalClaims
pub mod Whole
