pub mod ListLaws
pub mod LoopLaws
pub mod PartLaws
pub mod TextLaws
