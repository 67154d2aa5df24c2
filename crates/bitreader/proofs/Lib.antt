pub mod Budget
pub mod EndingLaws
pub mod FieldsWithin
pub mod Following
pub mod ReadsLaws
