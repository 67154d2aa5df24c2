pub mod Choice
pub mod Groups
pub mod Readings
pub mod Records
pub mod Shape
