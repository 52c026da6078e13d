pub mod Summaries
pub mod Rooms
pub mod Plans
pub mod Standing
