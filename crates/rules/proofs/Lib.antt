pub mod AllOrNone
pub mod DemandOne
pub mod NewClaims
pub mod Outcomes
pub mod ReadBack
pub mod Rules
pub mod StepFacts
pub mod Within
