pub mod Kept
pub mod LookUps
pub mod TenantRuns
pub mod TenantSettings
mod InOrder
mod Others
mod OwnParts
mod TenantParts
mod UserFaults
mod Versions
