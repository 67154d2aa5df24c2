pub mod ByteLaws
pub mod PackLaws
pub mod PackedClaims
