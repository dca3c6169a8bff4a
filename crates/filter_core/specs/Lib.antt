pub mod Asking
pub mod Filters
pub mod Holding
pub mod Matching
pub mod Reading
