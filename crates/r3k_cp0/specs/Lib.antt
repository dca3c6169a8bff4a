pub mod Random
pub mod Registers
pub mod Enter
