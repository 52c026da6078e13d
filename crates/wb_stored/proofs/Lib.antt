pub mod Empty
pub mod KeptFiles
pub mod Readings
pub mod Stands
mod Deleting
mod Inserting
mod Kept
mod KeptDeletes
mod KeptInserts
mod KeptPuts
mod Layouts
mod Making
mod Once
mod Parts
mod Selecting
mod Texts
mod ToldRows
mod Upserting
mod Values
