mod ByExpiry
mod Entries
mod ExportLemmas
mod Going
mod LineLemmas
