mod Reaching
mod Viewing
mod Raising
mod Finding
mod Missing
pub mod Running
pub mod Refilling
pub mod Ending
mod RightRefill
