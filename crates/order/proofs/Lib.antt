pub mod Concerns
pub mod Edits
pub mod Frame
pub mod Moves
pub mod OrderRule
