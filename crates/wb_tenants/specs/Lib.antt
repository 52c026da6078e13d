pub mod Sets
pub mod Owned
