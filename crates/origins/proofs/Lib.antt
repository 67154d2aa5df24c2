pub mod FormatClaims
pub mod Forgetting
pub mod Matching
pub mod OneRow
pub mod OriginClaims
pub mod Steps
