pub mod AsciiBytes
mod DeskRows
mod ListMaps
mod Members
mod NoFloats
mod PlainLists
mod PlainTenants
mod SortedDues
