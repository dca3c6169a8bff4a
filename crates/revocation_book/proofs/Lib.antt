mod Distinct
pub mod Earliest
mod Few
pub mod Takable
mod Richest
mod Walk
