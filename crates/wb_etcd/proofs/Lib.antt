mod Asking
mod Bodies
mod Names
mod Orders
mod ToldRows
