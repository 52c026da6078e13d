pub mod RefusalBodies
pub mod Refused
pub mod Seen
pub mod Shown
