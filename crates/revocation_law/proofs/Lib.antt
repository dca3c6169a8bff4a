mod Plain
pub mod Fixed
mod Requests
mod Changes
mod Happening
pub mod Serving
mod Ticks
mod Unasked
mod Slow
mod Relief
pub mod Booting
