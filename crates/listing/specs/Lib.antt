pub mod Comparing
pub mod Listing
pub mod ListingClaims
pub mod Written
