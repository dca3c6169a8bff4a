pub mod Delivery
pub mod Sending
pub mod Station
pub mod Stations
pub mod Course
