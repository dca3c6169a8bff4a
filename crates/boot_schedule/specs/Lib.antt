pub mod Answers
pub mod Forms
pub mod Names
pub mod Pieces
pub mod Saying
pub mod Schedule
