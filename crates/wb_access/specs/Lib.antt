pub mod Sessions
pub mod Receipts
pub mod SessionCounts
