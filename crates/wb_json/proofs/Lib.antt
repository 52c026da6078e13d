pub mod NoFloats
mod DateBytes
mod EntryLemmas
