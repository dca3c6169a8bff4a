mod Around
mod Mask
mod Numbered
pub mod Owed
pub mod Release
pub mod Whole
