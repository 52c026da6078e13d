pub mod OneHistory
pub mod Owned
pub mod Scripts
