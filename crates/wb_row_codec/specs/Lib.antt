pub mod Good
pub mod Items
pub mod Members
pub mod SaidDeeds
pub mod Shapes
