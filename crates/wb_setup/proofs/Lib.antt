pub mod Orders
pub mod OtherLists
pub mod StoredJoined
mod GivenForms
mod GivenLists
mod GivenRanges
mod Groups
mod Joining
mod Puts
mod Readers
mod Recipients
mod TomlViews
mod Walks
