pub mod TwoRuns
pub mod TwinAnswers
