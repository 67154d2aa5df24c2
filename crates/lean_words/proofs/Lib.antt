pub mod BackLaws
pub mod FilledLaws
pub mod ItemLaws
pub mod ProcessLaws
pub mod RightsLaws
pub mod RowLaws
pub mod StoreLaws
pub mod TakenLaws
