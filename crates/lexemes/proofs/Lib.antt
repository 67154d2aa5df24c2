pub mod Long
pub mod Reading
