-- The definitions of what an image means, of its faults, and of how it is spelled.
pub mod Names
pub mod ImageValue
pub mod ImageFaults
pub mod Accepted
pub mod Parts
pub mod Spelling
