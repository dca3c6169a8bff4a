pub mod PageSet
pub mod Row
pub mod Rows
pub mod Tallies
