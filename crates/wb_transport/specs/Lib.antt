pub mod Lines
pub mod MemoryLinks
pub mod Dials
pub mod MemoryDials
