pub mod LedgerLaw
pub mod Telling
