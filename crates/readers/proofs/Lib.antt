pub mod CameLaws
pub mod Gives
pub mod Long
pub mod ReaderLaws
