pub mod BackValues
pub mod GoodRows
mod BackAnswers
mod BackEntries
mod BackSettings
mod Canonical
mod CanonicalForms
mod PlainRows
mod Puts
mod RoundTrip
mod TenantRows
