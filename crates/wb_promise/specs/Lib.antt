pub mod Headline
pub mod OlderReports
pub mod Promises
pub mod Submissions
