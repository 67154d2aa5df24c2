pub mod AdmissionClaims
pub mod ImageClaims
pub mod LengthClaims
pub mod Types
