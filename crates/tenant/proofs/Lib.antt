pub mod Equal
pub mod Erasure
pub mod Fence
pub mod TenantOfNets
pub mod TenantRule
pub mod View
