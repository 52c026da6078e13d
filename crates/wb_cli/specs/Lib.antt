pub mod CommandLine
pub mod Places
pub mod Statuses
pub mod Loads
