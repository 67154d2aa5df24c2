pub mod Actions
pub mod Calls
pub mod Loading
pub mod Rounds
pub mod Standing
pub mod Types
pub mod Words
