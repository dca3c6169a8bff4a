pub mod Slots
pub mod Stores
