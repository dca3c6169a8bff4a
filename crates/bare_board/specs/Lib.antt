pub mod Faults
pub mod Loading
pub mod Run
pub mod Stretch
pub mod Text
pub mod Tick
