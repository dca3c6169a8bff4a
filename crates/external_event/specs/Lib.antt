pub mod EventValue
pub mod Limits
pub mod Order
pub mod Packet
