pub mod CountLaws
pub mod NumberLaws
pub mod PartLaws
pub mod RowLaws
