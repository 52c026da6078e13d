pub mod Opens
pub mod InOrder
pub mod Workers
pub mod Ended
pub mod Serves
