pub mod Report
pub mod Room
pub mod Sums
pub mod SumsLine
