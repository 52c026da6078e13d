pub mod CaseLists
pub mod Counting
pub mod HeldSessions
pub mod Indexes
pub mod Lookups
pub mod NotedReports
pub mod PlacesAt
pub mod Purges
mod Configurations
mod DeadNumbers
mod EarlyReports
mod LateSessions
mod NumberedReports
mod ReceiptTables
mod ReportNumbers
mod SessionLists
