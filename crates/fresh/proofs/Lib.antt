pub mod FitLaws
pub mod FreshLaws
pub mod NetTypes
pub mod StartLaws
