pub mod Room
pub mod Keyed
