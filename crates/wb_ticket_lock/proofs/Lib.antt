mod Allowed
mod Counts
mod Entered
mod Seats
