pub mod TextTenantRule
pub mod Types
