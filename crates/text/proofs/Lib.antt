pub mod DecimalLaws
pub mod SignedLaws
pub mod WriterLaws
pub mod WritingLaws
