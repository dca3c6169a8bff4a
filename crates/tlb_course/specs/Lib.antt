pub mod Accesses
pub mod Emptying
pub mod Course
pub mod Further
pub mod Fills
