mod Beginnings
pub mod Booting
pub mod Clear
mod Deciding
pub mod Early
pub mod Nothing
pub mod Others
mod Own
mod OwnItems
pub mod Passing
mod Reports
mod Rest
mod Same
mod Slicing
pub mod Ticks
mod Timing
pub mod Turning
mod TwoSystems
mod Written
