pub mod TextTenantRule
