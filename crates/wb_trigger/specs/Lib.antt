pub mod Marks
pub mod PublicAnswers
