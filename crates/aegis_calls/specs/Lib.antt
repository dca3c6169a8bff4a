pub mod Cached
pub mod Calls
pub mod Entering
pub mod Living
pub mod QuietTicks
pub mod Rows
pub mod Stretch
