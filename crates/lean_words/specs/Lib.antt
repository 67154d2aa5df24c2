pub mod Filled
pub mod Items
pub mod Processes
pub mod Rights
pub mod Stores
pub mod Types
