pub mod FirstBytes
pub mod ImageLaws
pub mod LayoutLaws
