pub mod Fitting
pub mod Emptying
