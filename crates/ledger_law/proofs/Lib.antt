pub mod Told
pub mod Mute
pub mod Events
mod Turning
mod Releasing
pub mod Stepping
mod Timing
pub mod Ticks
pub mod Booting
mod Ending
mod Cleanness
pub mod Tells
