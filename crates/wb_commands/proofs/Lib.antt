pub mod Plans
pub mod Results
mod Made
mod Proposed
mod SecretTexts
mod SetUps
mod Submissions
