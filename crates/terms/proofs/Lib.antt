pub mod CodeLaws
pub mod Loaded
pub mod LoadingLaws
pub mod Marks
pub mod TableLaws
