pub mod TenantRule
pub mod Types
