pub mod Pages
pub mod Runs
pub mod Notes
pub mod Core
pub mod Seen
