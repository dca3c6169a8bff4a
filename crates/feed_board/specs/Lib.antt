pub mod Acting
pub mod Arriving
pub mod Timing
