pub mod Made
pub mod Plans
pub mod Puts
pub mod Steps
