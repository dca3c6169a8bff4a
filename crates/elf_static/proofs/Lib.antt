mod Rest
mod Sizes
pub mod HeaderSteps
pub mod Acceptance
mod HeaderReread
mod FileReread
pub mod PartsReread
