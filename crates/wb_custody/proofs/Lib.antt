pub mod LegalRequests
pub mod RequestLists
pub mod SealedLookups
mod Refusals
