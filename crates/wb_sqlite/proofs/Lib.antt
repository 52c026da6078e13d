pub mod SentKeeper
mod Batches
mod Committing
mod Loading
mod Making
mod NewFiles
mod Reading
mod SentConnection
mod SentSchema
mod SentStatements
mod SentStore
mod Stays
