pub mod FieldLaws
pub mod Long
pub mod SetLaws
