pub mod ActionLaws
pub mod ChainLaws
pub mod Fitting
pub mod Keeping
pub mod Lengths
pub mod LentLaws
pub mod ProcessLaws
