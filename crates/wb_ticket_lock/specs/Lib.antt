pub mod Contents
pub mod Histories
pub mod Seats
