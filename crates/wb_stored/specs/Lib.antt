pub mod Tables
pub mod Texts
pub mod StoredRows
pub mod Told
pub mod KeptFiles
