pub mod Csv
pub mod Exports
pub mod Forecasts
pub mod Registers
