pub mod HeldPlaces
pub mod RowKinds
pub mod SetUp
