pub mod Pending
pub mod Backups
pub mod TakingRow
pub mod Takings
pub mod RevocationBook
pub mod Richest
