pub mod Ascending
pub mod ConfiguredRows
pub mod Fitting
pub mod ItemOrder
pub mod NotedRows
pub mod PutsBehind
pub mod RowPuts
mod AscendingRows
mod DatedTrails
mod FitItems
mod Freedom
mod GrowingTrails
mod HeldReports
mod ItemKinds
mod ItemsBack
mod Judging
mod KeptMoments
mod KeptReceipts
mod KeptSetUp
mod KeptTables
mod LeftHosts
mod LeftItems
mod LeftRows
mod LeftTables
mod LegalReports
mod ListsBack
mod Lookups
mod NewTenants
mod NoTenant
mod OpenTrails
mod OpenedTables
mod OpeningsReadable
mod OwnedRows
mod Parted
mod ReceiptsBack
mod ReportOrder
mod ReportsBack
mod RowsBack
mod RowsByTenant
mod RulesHold
mod SealedOnes
mod SealedRows
mod SealsBack
mod StoredItems
mod StoredTables
mod TablesBack
mod TenantParts
mod TrailRows
mod TrailsBack
mod WholeTrails
