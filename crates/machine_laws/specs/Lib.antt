pub mod Confined
pub mod Entered
pub mod Ticks
pub mod Seen
