pub mod Assembled
pub mod Emission
pub mod Field
pub mod Number
pub mod Second
pub mod Seen
pub mod Words
