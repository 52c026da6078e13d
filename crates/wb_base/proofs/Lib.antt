pub mod AnswerLemmas
pub mod GoodForms
pub mod Options
pub mod Parts
pub mod RowKeys
pub mod Sealing
pub mod StdEnds
mod Points
mod Rolling
