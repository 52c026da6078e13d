pub mod Keys
pub mod TomlValues
pub mod Given
pub mod Rules
pub mod Setups
pub mod GivesLists
pub mod Joined
