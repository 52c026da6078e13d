mod ChunkLemmas
mod ChunkOrder
mod Dropping
mod PutCount
mod Putting
mod ReportParts
