pub mod Dates
pub mod Entries
pub mod Gives
