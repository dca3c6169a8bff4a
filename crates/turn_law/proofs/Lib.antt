mod Amounts
mod Distance
pub mod Rules
mod Keeping
mod Lateness
pub mod Walking
pub mod Coming
