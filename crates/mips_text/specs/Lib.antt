pub mod Limits
pub mod Seen
pub mod Texts
pub mod WordRows
