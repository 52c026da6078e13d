mod Locks
mod Opened
mod Orders
mod Parts
mod Sent
