pub mod CivilDates
pub mod DatedTerms
pub mod ReadBack
pub mod ReadExactly
mod Added
mod JiffWords
mod Ranges
mod TermOrder
