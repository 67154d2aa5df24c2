pub mod LineLaws
pub mod LineLengths
pub mod LinesLaws
pub mod TextLaws
