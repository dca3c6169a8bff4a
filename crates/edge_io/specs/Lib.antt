pub mod Faults
pub mod Limits
pub mod Reads
pub mod Written
