pub mod Ticks
pub mod TurnLaw
