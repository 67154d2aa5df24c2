pub mod Calls
pub mod PackedClaims
pub mod Packing
pub mod Types
