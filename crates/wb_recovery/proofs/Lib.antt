pub mod NewTenants
pub mod OpenedPlaces
mod KeptReports
mod LaterMoments
mod OwnRows
mod OwnSettings
