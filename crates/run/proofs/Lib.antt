pub mod CallLaws
pub mod FirstPicks
