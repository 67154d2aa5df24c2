pub mod Lexemes
pub mod Progress
pub mod Types
