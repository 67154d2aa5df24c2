pub mod AcceptedCode
pub mod AcceptedNode
pub mod AcceptedSound
pub mod AdmissionClaims
pub mod Gives
pub mod LengthClaims
