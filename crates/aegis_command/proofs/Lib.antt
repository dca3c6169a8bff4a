mod Pairing
pub mod Completeness
