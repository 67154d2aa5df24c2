pub mod Run
pub mod SoundRuns
pub mod Types
