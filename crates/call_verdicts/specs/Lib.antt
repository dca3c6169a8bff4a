pub mod Granted
pub mod Refusals
