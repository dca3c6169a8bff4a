pub mod ItemText
pub mod Answer
pub mod Text
pub mod Course
pub mod Law
pub mod Limit
