pub mod Phases
pub mod Reach
pub mod Whole
