pub mod Instruction
pub mod Progress
pub mod Types
