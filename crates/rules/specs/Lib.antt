pub mod AllOrNone
pub mod DemandOne
pub mod NewClaims
pub mod Rules
pub mod Types
