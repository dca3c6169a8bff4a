pub mod Request
pub mod Pressure
pub mod Again
