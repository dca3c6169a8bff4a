pub mod Index
pub mod Row
pub mod Rows
