pub mod Notices
pub mod Owed
pub mod LiveReports
pub mod Outbox
pub mod Deliveries
pub mod Calls
pub mod Notifies
