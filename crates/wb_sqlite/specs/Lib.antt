pub mod Faults
pub mod NewFiles
pub mod PathFiles
pub mod Readings
pub mod Standing
pub mod Statements
pub mod Staying
