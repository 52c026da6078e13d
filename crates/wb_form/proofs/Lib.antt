pub mod Good
pub mod NoFloats
pub mod Walks
mod Back
mod InRange
mod IndexLemmas
