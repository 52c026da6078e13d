pub mod SealedAnswers
pub mod Desks
pub mod Plans
