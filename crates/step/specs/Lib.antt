pub mod Pick
pub mod PutBack
pub mod Ran
pub mod Sharing
pub mod SoundKept
pub mod Turn
pub mod Types
