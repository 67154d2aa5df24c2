pub mod EntryLaws
pub mod FirstFault
pub mod LookupLaws
pub mod NameClaims
pub mod Standing
