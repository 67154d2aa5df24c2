pub mod AllRowsLaws
pub mod OriginLaws
pub mod PolicyLaws
pub mod RowLaws
pub mod RuledLaws
