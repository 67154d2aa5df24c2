pub mod Buffer
pub mod Bytes
pub mod Decimal
pub mod Joined
pub mod Signed
pub mod Writer
pub mod Writing
