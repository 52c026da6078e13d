pub mod CommandLineLemmas
pub mod SinkLemmas
mod PlaceLemmas
