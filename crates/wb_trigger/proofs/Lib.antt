mod FaultLemmas
mod MarkLemmas
mod PublicLemmas
