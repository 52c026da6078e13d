pub mod EarlyDays
mod LegalRoom
mod SummaryLemmas
mod Taken
