pub mod InstructionLaws
pub mod InstructionWithin
