pub mod LineLaws
pub mod WordLaws
