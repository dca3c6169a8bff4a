pub mod Delivery
pub mod Parts
