pub mod Answers
pub mod Arrivals
pub mod Attended
pub mod Endings
pub mod Served
