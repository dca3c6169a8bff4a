mod Counts
pub mod Free
mod Marks
pub mod Owners
mod Tallies
