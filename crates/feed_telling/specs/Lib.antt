pub mod Tell
pub mod Turning
pub mod Arriving
