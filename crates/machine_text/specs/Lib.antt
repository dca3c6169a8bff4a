pub mod Differences
pub mod Fingerprint
pub mod Registers
pub mod RowLines
pub mod Series
